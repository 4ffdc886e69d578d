use Rattle.std.proofs.Common.{List, Option, ℕ, Some, None, ap, sym, subst, ◌∙◌}
use Rattle.cat_core.specs.declared.stamps.StampRow.{StampRow}
use Rattle.cat_core.specs.Ages.{AreBetween, IsPlace}
use Rattle.cat_core.proofs.StampRows.{number, with_absent, with_there, between_stamped}
use Rattle.cat_core.proofs.stamps.Stamps.give.Goals as goal

pub invariant_of-self : goal.invariant_of-self
invariant_of-self c = subst (λ (rows : List StampRow). AreBetween number 0 rows c.self.inside.next_id) (sym c.put_at.ensures) (between_stamped c.self.inside.rows.items _ _ 0 _ c.self.invariant)

pub returns-in-Some : goal.returns-in-Some
returns-in-Some c =
    let slice = c.as_slice.ensures.value in
    let up : AreBetween number 0 c.as_slice.result.now c.self.inside.next_id = rw slice c.self.invariant in
    let found : IsPlace number c.args.id.0 c.self.inside.rows.items (Some c.in-Some.place) = subst (λ (rows : List StampRow). IsPlace number c.args.id.0 rows (Some c.in-Some.place)) slice (subst (λ (place : Option ℕ). IsPlace number c.args.id.0 c.as_slice.result.now place) c.in-Some.is (c.place_of.ensures _ up)) in
    rw (← c.self.view_is) (ap (λ (rows : List StampRow). record { rows = rows; all = c.self.inside.all; next_id = c.self.inside.next_id }) (c.put_at.ensures ∙ sym (with_there c.self.inside.rows.items c.args.id c.args.stamp 0 c.self.inside.next_id c.in-Some.place c.self.invariant found.0 found.1)))

pub returns-in-None : goal.returns-in-None
returns-in-None c =
    let slice = c.as_slice.ensures.value in
    let up : AreBetween number 0 c.as_slice.result.now c.self.inside.next_id = rw slice c.self.invariant in
    let found : IsPlace number c.args.id.0 c.self.inside.rows.items None = subst (λ (rows : List StampRow). IsPlace number c.args.id.0 rows None) slice (subst (λ (place : Option ℕ). IsPlace number c.args.id.0 c.as_slice.result.now place) c.in-None.is (c.place_of.ensures _ up)) in
    rw (← c.self.view_is) (ap (λ (rows : List StampRow). record { rows = rows; all = c.self.inside.all; next_id = c.self.inside.next_id }) (sym (with_absent c.self.inside.rows.items c.args.id c.args.stamp found)))
