use Rattle.std.proofs.Common.{◌≡◌, ◌∙◌, ◌++◌, ◌∷◌, [], ap, map, take, sym, subst, List, arith}
use Rattle.std.proofs.lemmas.List.{map_more, take_all}
use Rattle.q_base.specs.declared.ids.ObjId.{ObjId}
use Rattle.query_tree.specs.declared.query.Item.{Item}
use Rattle.query_tree.specs.declared.query.Relation.{Relation}
use Rattle.query_tree.specs.Items.{relation_of}
use Rattle.cat_deps.specs.Reached.{Adds}
use Rattle.cat_deps.proofs.Visits.{adds_none, adds_both}
use Rattle.cat_deps.proofs.reached.add_items.Goals as goal

pub loop-item-init : goal.loop-item-init
loop-item-init c = adds_none c.args.reached.now c.requires

abbrev id_of : Item → ObjId
id_of item = (relation_of item).id

pub loop-item-preserved : goal.loop-item-preserved
loop-item-preserved c =
    let listed = map_more id_of c.args.items.now c.loop-item.item-index c.item-item.result (omega arith) in
    let id : id_of _ ≡ c.relation.result.now.id = ap id_of (sym c.item-item.is) ∙ sym (ap (λ (r : Relation). r.id) c.relation.ensures) in
    subst (λ (xs : List ObjId). Adds xs c.args.reached.now c.add.new.self) (sym (listed ∙ ap (λ (i : ObjId). map id_of (take c.loop-item.item-index c.args.items.now) ++ i ∷ []) id)) (adds_both _ _ c.args.reached.now c.loop-item.reached c.add.new.self c.loop-item.invariant c.in_ok-add.ensures)

pub returns : goal.returns
returns c = subst (λ (items : List Item). Adds (map id_of items) c.args.reached.now c.loop-item.reached) (take_all c.loop-item.item-index c.args.items.now (omega arith)) c.loop-item.invariant
