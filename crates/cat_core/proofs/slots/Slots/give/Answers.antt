use Rattle.std.proofs.Common.{List, Option, ℕ, Some, None, ap, sym, subst, ◌∙◌}
use Rattle.cat_core.specs.declared.slots.Slot.{Slot}
use Rattle.cat_core.specs.Ages.{AreBetween, IsPlace}
use Rattle.cat_core.specs.Objects.{Objects, entry_in}
use Rattle.cat_core.proofs.SlotRows.{number, entry_placed, with_absent, with_there, between_given}
use Rattle.cat_core.proofs.slots.Slots.give.Goals as goal

pub invariant_of-self : goal.invariant_of-self
invariant_of-self c = subst (λ (slots : List Slot). AreBetween number 0 slots c.self.inside.next_id) (sym c.put_at.ensures.given) (between_given c.self.inside.slots.items _ _ 0 _ c.self.invariant)

found_some : (c : goal.After-put_at) → IsPlace number c.args.id.0 c.self.inside.slots.items (Some c.in-Some.place)
found_some c =
    let slice = c.as_slice.ensures.value in
    let up : AreBetween number 0 c.as_slice.result.now c.self.inside.next_id = rw slice c.self.invariant in
    subst (λ (slots : List Slot). IsPlace number c.args.id.0 slots (Some c.in-Some.place)) slice (subst (λ (place : Option ℕ). IsPlace number c.args.id.0 c.as_slice.result.now place) c.in-Some.is (c.place_of.ensures _ up))

found_none : (c : goal.Joined-entry) → IsPlace number c.args.id.0 c.self.inside.slots.items None
found_none c =
    let slice = c.as_slice.ensures.value in
    let up : AreBetween number 0 c.as_slice.result.now c.self.inside.next_id = rw slice c.self.invariant in
    subst (λ (slots : List Slot). IsPlace number c.args.id.0 slots None) slice (subst (λ (place : Option ℕ). IsPlace number c.args.id.0 c.as_slice.result.now place) c.in-None.is (c.place_of.ensures _ up))

pub returns-in-Some-clause-given : goal.returns-in-Some-clause-given
returns-in-Some-clause-given c =
    let at = found_some c in
    rw (← c.self.view_is) (ap (λ (slots : List Slot). record { slots = slots; next_id = c.self.inside.next_id }) (c.put_at.ensures.given ∙ sym (with_there c.self.inside.slots.items c.args.id c.args.entry 0 c.self.inside.next_id c.in-Some.place c.self.invariant at.0 at.1)))

pub returns-in-Some-clause-was : goal.returns-in-Some-clause-was
returns-in-Some-clause-was c =
    c.put_at.ensures.was ∙ entry_placed c.self.inside.slots.items c.args.id (Some c.in-Some.place) c.self.inside.next_id c.self.invariant (found_some c) ∙ ap (λ (s : Objects). entry_in s.slots c.args.id) c.self.view_is

pub returns-in-None-clause-given : goal.returns-in-None-clause-given
returns-in-None-clause-given c =
    rw (← c.self.view_is) (ap (λ (slots : List Slot). record { slots = slots; next_id = c.self.inside.next_id }) (sym (with_absent c.self.inside.slots.items c.args.id c.args.entry (found_none c))))

pub returns-in-None-clause-was : goal.returns-in-None-clause-was
returns-in-None-clause-was c =
    entry_placed c.self.inside.slots.items c.args.id None c.self.inside.next_id c.self.invariant (found_none c) ∙ ap (λ (s : Objects). entry_in s.slots c.args.id) c.self.view_is
