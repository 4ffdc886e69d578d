use Rattle.std.proofs.Common.{◌≡◌, ◌∙◌, sym, subst, ap, map, List}
use Rattle.std.specs.Prelude.{IfOk}
use Rattle.q_base.specs.declared.ids.ObjId.{ObjId}
use Rattle.query_tree.specs.declared.query.Item.{Item}
use Rattle.query_tree.specs.declared.query.Query.{Query}
use Rattle.query_tree.specs.Items.{relation_of}
use Rattle.cat_deps.specs.Reached.{Adds, def_names}
use Rattle.cat_deps.proofs.Visits.{adds_none}
use Rattle.cat_deps.proofs.reached.add_def.Goals as goal

pub returns-in-View : goal.returns-in-View
returns-in-View c =
    let items : c.as_slice.result.now ≡ c.in-View.view.query.value.items = c.as_slice.ensures ∙ ap (λ (q : Query). q.items) c.deref.ensures in
    let names : map (λ (item : Item). (relation_of item).id) c.as_slice.result.now ≡ def_names c.args.def.now = ap (map (λ (item : Item). (relation_of item).id)) items ∙ sym (ap def_names c.in-View.is) in
    subst (λ (ids : List ObjId). IfOk c.add_items.result (λ _. Adds ids c.args.reached.now c.add_items.new.reached)) names c.add_items.ensures

pub returns-in-Table : goal.returns-in-Table
returns-in-Table c = subst (λ (ids : List ObjId). Adds ids c.args.reached.now c.args.reached.now) (sym (ap def_names c.in-Table.is)) (adds_none c.args.reached.now c.requires)

pub returns-in-Index : goal.returns-in-Index
returns-in-Index c = subst (λ (ids : List ObjId). Adds ids c.args.reached.now c.args.reached.now) (sym (ap def_names c.in-Index.is)) (adds_none c.args.reached.now c.requires)
