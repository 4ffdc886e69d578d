use Rattle.std.specs.Prelude.{ℕ, zero, suc, ◌+◌, ◌==◌, nat_lt, nat_le, ◌^◌, ◌-◌, ◌&&◌, List, [], ◌∷◌, ◌++◌, Option, Some, None, if◌then◌else◌, slice_get}
use Rattle.std.specs.declared.rc.Rc.{Rc}
use Rattle.std.specs.declared.alloc.Global.{Global}
use Rattle.q_base.specs.declared.ids.ObjId.{ObjId}
use Rattle.cat_core.specs.declared.entry.Entry.{Entry}
use Rattle.cat_core.specs.declared.slots.Slot.{Slot}

-- the objects, by ascending ids, and what is above all ids of objects that ever were
pub record Objects : Type 0 where
  pub slots : List Slot
  pub next_id : ℕ

-- the object of an id
abbrev pub entry_in : List Slot → ObjId → Option (Rc Entry Global)
entry_in [] id = None
entry_in (slot ∷ slots) id = if slot.id.0 == id.0 then slot.entry else entry_in slots id

-- the id has another entry, or none, where it has a place
abbrev pub with_entry : ObjId → Option (Rc Entry Global) → List Slot → List Slot
with_entry id entry [] = []
with_entry id entry (slot ∷ slots) = if slot.id.0 == id.0 then record { id = slot.id; entry = entry } ∷ slots else slot ∷ with_entry id entry slots

-- the slot at a place has another entry, or none
abbrev pub given_at : ℕ → Option (Rc Entry Global) → List Slot → List Slot
given_at n entry [] = []
given_at zero entry (slot ∷ slots) = record { id = slot.id; entry = entry } ∷ slots
given_at (suc n) entry (slot ∷ slots) = slot ∷ given_at n entry slots

-- an object that is later than all others is made
abbrev pub with_made : ObjId → Rc Entry Global → Objects → Objects
with_made id entry s =
    if nat_le s.next_id id.0 && nat_lt id.0 (2 ^ 32 - 1)
    then record { slots = s.slots ++ record { id = id; entry = Some entry } ∷ []; next_id = id.0 + 1 }
    else s

-- the entry of the slot at a place
abbrev pub entry_of_slot : List Slot → Option ℕ → Option (Rc Entry Global)
entry_of_slot slots None = None
entry_of_slot slots (Some place) = slot_entry (slice_get slots place)
  where
    slot_entry : Option Slot → Option (Rc Entry Global)
    slot_entry None = None
    slot_entry (Some slot) = slot.entry
