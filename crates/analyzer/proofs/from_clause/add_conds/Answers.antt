use Rattle.std.proofs.Common.{sym, ◌∙◌}
use Rattle.analyzer.proofs.Owned.{one_taken, append_more, append_done}
use Rattle.analyzer.proofs.from_clause.add_conds.Goals as goal

pub loop-cond-preserved : goal.loop-cond-preserved
loop-cond-preserved c =
    let at = c.loop-cond in
    let steps = c.in-Some.ensures.steps in
    (one_taken _ _ _ _ _ steps.0 at.invariant.0 steps.1, append_more _ _ _ _ _ _ steps.0 c.in_ok-push.ensures.ok at.invariant.1)

pub returns : goal.returns
returns c = append_done _ _ _ (sym c.loop-cond.invariant.0 ∙ c.in-None.ensures.steps.0) c.loop-cond.invariant.1
