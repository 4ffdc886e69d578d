use Rattle.std.proofs.Common.{sym, ◌∙◌}
use Rattle.analyzer.proofs.Owned.{one_taken, split_more, split_done}
use Rattle.analyzer.proofs.queries.part_outputs.Goals as goal

pub loop-output-preserved : goal.loop-output-preserved
loop-output-preserved c =
    let at = c.loop-output in
    let steps = c.in-Some.ensures.steps in
    (one_taken _ _ _ _ _ steps.0 at.invariant.0 steps.1, split_more _ _ _ _ _ _ _ _ _ steps.0 c.kind-kind.ensures c.in_ok-push.ensures.ok c.in_ok-push-2.ensures.ok at.invariant.1)

pub returns : goal.returns
returns c = split_done _ _ _ _ (sym c.loop-output.invariant.0 ∙ c.in-None.ensures.steps.0) c.loop-output.invariant.1
