use Rattle.plan_invalid.proofs.Pairs.{ListsMore-one}
use Rattle.plan_invalid.proofs.index.list_one.Goals as goal

pub returns-clause-ok : goal.returns-clause-ok
returns-clause-ok c = ListsMore-one _ _ _ _ c.in_ok-insert.ensures.updates.0
