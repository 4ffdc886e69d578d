use Rattle.std.proofs.Common.{◌≡◌, List, ap, sym, subst, rules}
use Rattle.std.specs.Prelude.{filter, is_some}
use Rattle.std.proofs.lemmas.Fn.{filter_same}
use Rattle.cat_core.specs.declared.slots.Slot.{Slot}
use Rattle.cat_core.specs.Ages.{AreBetween}
use Rattle.cat_core.proofs.Ages.{between_filter}
use Rattle.cat_core.proofs.SlotRows.{number}
use Rattle.cat_core.proofs.slots.Slots.forget.Goals as goal

kept : (c : goal.After-retain) → c.retain.new.self.items ≡ filter (λ (slot : Slot). is_some slot.entry) c.self.inside.slots.items
kept c = filter_same _ _ _ (λ x b f' k. search rules) _ _ c.retain.ensures.filtered

pub invariant_of-self : goal.invariant_of-self
invariant_of-self c = subst (λ (slots : List Slot). AreBetween number 0 slots c.self.inside.next_id) (sym (kept c)) (between_filter number _ c.self.inside.slots.items 0 _ c.self.invariant)

pub returns : goal.returns
returns c = rw (← c.self.view_is) (ap (λ (slots : List Slot). record { slots = slots; next_id = c.self.inside.next_id }) (kept c))
