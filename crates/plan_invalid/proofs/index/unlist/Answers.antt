use Rattle.plan_invalid.proofs.Pairs.{ListsLess-more}
use Rattle.plan_invalid.proofs.index.unlist.Goals as goal

pub loop-id-preserved : goal.loop-id-preserved
loop-id-preserved c = ListsLess-more _ _ _ _ _ _ _ _ c.loop-id-test.true c.loop-id.invariant c.unlist_one.ensures
