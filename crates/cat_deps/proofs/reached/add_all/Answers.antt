use Rattle.std.proofs.Common.{sym, subst, List, arith}
use Rattle.std.proofs.lemmas.List.{take_more, take_all}
use Rattle.q_base.specs.declared.ids.ObjId.{ObjId}
use Rattle.cat_deps.specs.Reached.{Adds}
use Rattle.cat_deps.proofs.Visits.{adds_none, adds_both}
use Rattle.cat_deps.proofs.reached.add_all.Goals as goal

pub loop-id-init : goal.loop-id-init
loop-id-init c = adds_none c.args.reached.now c.requires

pub loop-id-preserved : goal.loop-id-preserved
loop-id-preserved c = subst (λ (xs : List ObjId). Adds xs c.args.reached.now c.add.new.self) (sym (take_more c.args.ids.now c.loop-id.id-index _ (omega arith))) (adds_both _ _ c.args.reached.now c.loop-id.reached c.add.new.self c.loop-id.invariant c.in_ok-add.ensures)

pub returns : goal.returns
returns c = subst (λ (xs : List ObjId). Adds xs c.args.reached.now c.loop-id.reached) (take_all c.loop-id.id-index c.args.ids.now (omega arith)) c.loop-id.invariant
