use Rattle.std.proofs.Common.{List, ap, ◌∙◌}
use Rattle.cat_core.specs.declared.slots.Slot.{Slot}
use Rattle.cat_core.specs.Ages.{AreBetween}
use Rattle.cat_core.specs.Objects.{Objects, entry_in}
use Rattle.cat_core.proofs.SlotRows.{number, entry_placed}
use Rattle.cat_core.proofs.slots.Slots.entry.Goals as goal

pub returns : goal.returns
returns c =
    let slice = c.as_slice-slots.ensures.value in
    let up : AreBetween number 0 c.as_slice-slots.result.now c.self.inside.next_id = rw slice c.self.invariant in
    c.entry_at.ensures ∙ entry_placed _ _ _ _ up (c.place_of.ensures _ up) ∙ ap (λ (slots : List Slot). entry_in slots c.args.id) (slice ∙ ap (λ (s : Objects). s.slots) c.self.view_is)
