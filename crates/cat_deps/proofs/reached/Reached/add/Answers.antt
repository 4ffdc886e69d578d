use Rattle.std.proofs.Common.{◌∙◌, ◌++◌, ◌∷◌, [], ap, List}
use Rattle.q_base.specs.declared.ids.ObjId.{ObjId}
use Rattle.cat_deps.proofs.Visits.{adds_one}
use Rattle.cat_deps.proofs.reached.Reached.add.Goals as goal

pub returns : goal.returns
returns c = adds_one c.args.id c.args.self.now _ c.requires c.in_ok-push.ensures.members (c.push_reserved.ensures.items ∙ ap (λ (xs : List ObjId). xs ++ c.args.id ∷ []) c.in_ok-reserve.ensures.items)
