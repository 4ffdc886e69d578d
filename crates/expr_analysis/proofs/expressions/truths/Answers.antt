use Rattle.std.proofs.Common.{sym, ◌∙◌}
use Rattle.expr_analysis.specs.Expressions.{truths}
use Rattle.expr_analysis.proofs.Owned.{one_taken, each_more, each_done}
use Rattle.expr_analysis.proofs.expressions.truths.Goals as goal

pub loop-node-preserved : goal.loop-node-preserved
loop-node-preserved c =
    let at = c.loop-node in
    let steps = c.in-Some.ensures.steps in
    (one_taken _ _ _ _ _ steps.0 at.invariant.0 steps.1, each_more _ _ _ _ _ _ _ _ steps.0 c.in-Ok.ensures c.in_ok-push-in-Ok.ensures.ok at.invariant.1)

pub returns : goal.returns
unfolding truths
returns c = each_done _ _ _ _ (sym c.loop-node.invariant.0 ∙ c.in-None.ensures.steps.0) c.loop-node.invariant.1
