use Rattle.std.proofs.Common.{sym, ◌∙◌}
use Rattle.plan_invalid.proofs.Pairs.{ListsLess-one}
use Rattle.plan_invalid.proofs.index.unlist_one.Goals as goal

pub returns : goal.returns
returns c = ListsLess-one _ _ _ _ _ (sym c.contains.ensures.value ∙ c.if-contains.false) c.remove.ensures.updates.0
