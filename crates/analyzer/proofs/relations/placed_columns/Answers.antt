use Rattle.analyzer.proofs.Placing.{placed_more}
use Rattle.analyzer.proofs.relations.placed_columns.Goals as goal

pub loop-id-preserved : goal.loop-id-preserved
loop-id-preserved c = placed_more _ _ _ _ _ _ _ _ c.loop-id-test.true c.in_ok-column_at.ensures c.in_ok-push.ensures.ok c.behind_id-rest.ensures c.loop-id.invariant
