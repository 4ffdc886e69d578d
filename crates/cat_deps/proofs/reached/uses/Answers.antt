use Rattle.std.proofs.Common.{◌↔◌, Contains, sym, subst, List}
use Rattle.q_base.specs.declared.ids.ObjId.{ObjId}
use Rattle.query_tree.specs.Items.{ids_of}
use Rattle.cat_deps.proofs.Visits.{reached_from}
use Rattle.cat_deps.proofs.reached.uses.Goals as goal

pub returns : goal.returns
returns c = reached_from c.args.catalog.now.slots c.as_slice.result.now (ids_of c.args.query.now) (subst (λ (xs : List ObjId). (id : ObjId) → Contains xs id ↔ Contains (ids_of c.args.query.now) id) (sym c.as_slice.ensures.ids) c.in_ok-named.ensures) c.uses_of.result c.uses_of.ensures
