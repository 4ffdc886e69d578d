-- The places of objects, by ascending ids.
use Rattle.std.proofs.Common.{◌≡◌, ℕ, zero, suc, ◌+◌, ◌==◌, ◌<◌, ◌≤◌, Bool, true, false, if◌then◌else◌, List, [], ◌∷◌, length, get_or, set, Option, Some, None, ap, sym, refl, arith}
use Rattle.std.proofs.lemmas.Bool.Decides.{nat_tests}
use Rattle.q_base.specs.declared.ids.ObjId.{ObjId}
use Rattle.std.specs.declared.rc.Rc.{Rc}
use Rattle.std.specs.declared.alloc.Global.{Global}
use Rattle.cat_core.specs.declared.entry.Entry.{Entry}
use Rattle.cat_core.specs.declared.slots.Slot.{Slot}
use Rattle.cat_core.specs.Ages.{AreBetween, IsPlace}
use Rattle.cat_core.specs.Objects.{entry_in, with_entry, given_at, entry_of_slot}
use Rattle.cat_core.proofs.Ages.{at_least}

abbrev pub number : Slot → ℕ
number slot = slot.id.0

-- the slot of an id is no earlier slot
later : (slot : Slot) (slots : List Slot) (id : ObjId) (low high i : ℕ) → AreBetween number low (slot ∷ slots) high → i < length slots → ((d : Slot) → number (get_or slots i d) ≡ id.0) → (slot.id.0 == id.0) ≡ false
later slot slots id low high i up lt same = let above = at_least number slots (slot.id.0 + 1) high up.1 i slot lt in grind (arith, nat_tests, above, same slot)

there : (slots : List Slot) (id : ObjId) (low high i : ℕ) → AreBetween number low slots high → i < length slots → ((d : Slot) → number (get_or slots i d) ≡ id.0) → entry_of_slot slots (Some i) ≡ entry_in slots id
there [] id low high i up lt same = absurd (omega arith)
there (slot ∷ slots) id low high zero up lt same = go (slot.id.0 == id.0) refl
  where
    go : (b : Bool) → (slot.id.0 == id.0) ≡ b → slot.entry ≡ (if b then slot.entry else entry_in slots id)
    go true e = refl
    go false e = absurd (grind (arith, nat_tests, e, same slot))
there (slot ∷ slots) id low high (suc i) up lt same =
    rw (later slot slots id low high i up (omega arith) (λ d. same d)) (there slots id (slot.id.0 + 1) high i up.1 (omega arith) (λ d. same d))

absent : (slots : List Slot) (id : ObjId) → IsPlace number id.0 slots None → entry_in slots id ≡ None
absent [] id none = refl
absent (slot ∷ slots) id none = go (slot.id.0 == id.0) refl (absent slots id (λ i d lt. none (suc i) d (omega arith)))
  where
    go : (b : Bool) → (slot.id.0 == id.0) ≡ b → entry_in slots id ≡ None → (if b then slot.entry else entry_in slots id) ≡ None
    go true e rest = absurd (none 0 slot (omega arith) (grind (arith, nat_tests, e)))
    go false e rest = rest

pub entry_placed : (slots : List Slot) (id : ObjId) (place : Option ℕ) (high : ℕ) → AreBetween number 0 slots high → IsPlace number id.0 slots place → entry_of_slot slots place ≡ entry_in slots id
entry_placed slots id None high up none = sym (absent slots id none)
entry_placed slots id (Some i) high up found = there slots id 0 high i up found.0 found.1

pub with_absent : (slots : List Slot) (id : ObjId) (entry : Option (Rc Entry Global)) → IsPlace number id.0 slots None → with_entry id entry slots ≡ slots
with_absent [] id entry none = refl
with_absent (slot ∷ slots) id entry none = go (slot.id.0 == id.0) refl (with_absent slots id entry (λ i d lt. none (suc i) d (omega arith)))
  where
    go : (b : Bool) → (slot.id.0 == id.0) ≡ b → with_entry id entry slots ≡ slots → (if b then record { id = slot.id; entry = entry } ∷ slots else slot ∷ with_entry id entry slots) ≡ slot ∷ slots
    go true e rest = absurd (none 0 slot (omega arith) (grind (arith, nat_tests, e)))
    go false e rest = ap (λ (more : List Slot). slot ∷ more) rest

pub with_there : (slots : List Slot) (id : ObjId) (entry : Option (Rc Entry Global)) (low high i : ℕ) → AreBetween number low slots high → i < length slots → ((d : Slot) → number (get_or slots i d) ≡ id.0) → with_entry id entry slots ≡ given_at i entry slots
with_there [] id entry low high i up lt same = absurd (omega arith)
with_there (slot ∷ slots) id entry low high zero up lt same = go (slot.id.0 == id.0) refl
  where
    go : (b : Bool) → (slot.id.0 == id.0) ≡ b → (if b then record { id = slot.id; entry = entry } ∷ slots else slot ∷ with_entry id entry slots) ≡ record { id = slot.id; entry = entry } ∷ slots
    go true e = refl
    go false e = absurd (grind (arith, nat_tests, e, same slot))
with_there (slot ∷ slots) id entry low high (suc i) up lt same =
    rw (later slot slots id low high i up (omega arith) (λ d. same d)) (ap (λ (more : List Slot). slot ∷ more) (with_there slots id entry (slot.id.0 + 1) high i up.1 (omega arith) (λ d. same d)))

pub given_in : (slots : List Slot) (i : ℕ) (entry : Option (Rc Entry Global)) (slot : Slot) → i < length slots → slot ≡ get_or slots i slot → set slots i (record { id = slot.id; entry = entry }) ≡ given_at i entry slots
given_in [] i entry slot lt same = absurd (omega arith)
given_in (first ∷ slots) zero entry slot lt same = ap (λ (r : Slot). record { id = r.id; entry = entry } ∷ slots) same
given_in (first ∷ slots) (suc i) entry slot lt same = ap (λ (more : List Slot). first ∷ more) (given_in slots i entry slot (omega arith) same)

pub given_past : (slots : List Slot) (i : ℕ) (entry : Option (Rc Entry Global)) → length slots ≤ i → given_at i entry slots ≡ slots
given_past [] i entry le = refl
given_past (slot ∷ slots) zero entry le = absurd (omega arith)
given_past (slot ∷ slots) (suc i) entry le = ap (λ (more : List Slot). slot ∷ more) (given_past slots i entry (omega arith))

pub between_given : (slots : List Slot) (i : ℕ) (entry : Option (Rc Entry Global)) (low high : ℕ) → AreBetween number low slots high → AreBetween number low (given_at i entry slots) high
between_given [] i entry low high up = up
between_given (slot ∷ slots) zero entry low high up = up
between_given (slot ∷ slots) (suc i) entry low high up = (up.0, between_given slots i entry (slot.id.0 + 1) high up.1)
