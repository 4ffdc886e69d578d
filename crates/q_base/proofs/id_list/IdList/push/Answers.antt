use Rattle.std.proofs.Common.{◌≡◌, Ok, Err, sym, ◌∙◌, subst}
use Rattle.q_base.specs.IdLists.{HasOneMore, IsAscending, with_id}
use Rattle.q_base.proofs.IdLists.{with_id_searched, ascending_with_id, members_with_id}
use Rattle.q_base.proofs.id_list.IdList.push.Goals as goal

inserted : (c : goal.In_ok-insert) → with_id c.args.id c.self.inside.ids.items ≡ c.insert.new.self.items
inserted c =
    let found = c.in-Err.ensures in
    let slice = c.deref.ensures.value in
    (rw slice at (with_id_searched c.args.id c.deref.result.now (Err c.in-Err.place) (rw slice c.self.invariant) found.bound found.position)) ∙ sym c.in_ok-insert.ensures.items

pub invariant_of-self : goal.invariant_of-self
invariant_of-self c = subst IsAscending (inserted c) (ascending_with_id c.args.id _ c.self.invariant)

pub returns-in_ok-insert-clause-ok : goal.returns-in_ok-insert-clause-ok
returns-in_ok-insert-clause-ok c = rw (← c.self.view_is) (sym (inserted c))

pub returns-in_ok-insert-clause-members : goal.returns-in_ok-insert-clause-members
returns-in_ok-insert-clause-members c = rw (← c.self.view_is) (subst (HasOneMore c.args.id c.self.inside.ids.items) (inserted c) (members_with_id c.args.id _))

there : (c : goal.In_default) → with_id c.args.id c.self.inside.ids.items ≡ c.self.inside.ids.items
there c =
    let found = c.in_default.ensures in
    let slice = c.deref.ensures.value in
    rw slice at (with_id_searched c.args.id c.deref.result.now (Ok c.in_default.field-0) (rw slice c.self.invariant) found.bound found.position)

pub returns-in_default-clause-ok : goal.returns-in_default-clause-ok
returns-in_default-clause-ok c = rw (← c.self.view_is) (sym (there c))

pub returns-in_default-clause-members : goal.returns-in_default-clause-members
returns-in_default-clause-members c = rw (← c.self.view_is) (subst (HasOneMore c.args.id c.self.inside.ids.items) (there c) (members_with_id c.args.id _))
