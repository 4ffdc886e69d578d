use Rattle.std.proofs.Common.{sym, ◌∙◌}
use Rattle.analyzer.proofs.Owned.{one_taken, items_more, items_done}
use Rattle.analyzer.proofs.from_clause.query_items.Goals as goal

pub loop-item-preserved : goal.loop-item-preserved
loop-item-preserved c =
    let at = c.loop-item in
    let steps = c.in-Some.ensures.steps in
    (one_taken _ _ _ _ _ steps.0 at.invariant.0 steps.1, items_more _ _ _ _ _ _ _ _ _ _ steps.0 c.first_count.ensures c.query_item.ensures c.in_ok-push.ensures.ok c.other_counts-rest.ensures at.invariant.1)

pub returns : goal.returns
returns c = items_done _ _ _ _ (sym c.loop-item.invariant.0 ∙ c.in-None.ensures.steps.0) c.loop-item.invariant.1
