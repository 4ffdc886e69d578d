-- What taking a step of the objects back gives.
use Rattle.std.proofs.Common.{◌≡◌, ℕ, ◌+◌, ◌==◌, ◌≤◌, Bool, true, false, if◌then◌else◌, List, [], ◌∷◌, ◌++◌, Option, None, ap, sym, refl, ◌∙◌, arith}
use Rattle.std.specs.declared.rc.Rc.{Rc}
use Rattle.std.specs.declared.alloc.Global.{Global}
use Rattle.std.proofs.lemmas.Bool.Decides.{nat_tests}
use Rattle.q_base.specs.declared.ids.ObjId.{ObjId}
use Rattle.cat_core.specs.declared.entry.Entry.{Entry}
use Rattle.cat_core.specs.declared.slots.Slot.{Slot}
use Rattle.cat_core.specs.Ages.{AreBetween}
use Rattle.cat_core.specs.Objects.{entry_in, with_entry}
use Rattle.cat_core.proofs.SlotRows.{number}

-- only the last that is given counts
twice : (id : ObjId) (was now : Option (Rc Entry Global)) (slots : List Slot) → with_entry id was (with_entry id now slots) ≡ with_entry id was slots
twice id was now [] = refl
twice id was now (slot ∷ slots) = go (slot.id.0 == id.0) refl (twice id was now slots)
  where
    go : (b : Bool) → (slot.id.0 == id.0) ≡ b → with_entry id was (with_entry id now slots) ≡ with_entry id was slots
        → with_entry id was (if b then record { id = slot.id; entry = now } ∷ slots else slot ∷ with_entry id now slots) ≡ (if b then record { id = slot.id; entry = was } ∷ slots else slot ∷ with_entry id was slots)
    go true e rest = rw e refl
    go false e rest = rw e (ap (λ (more : List Slot). slot ∷ more) rest)

-- what is there already, given again, changes nothing that is looked up
pub same : (id : ObjId) (was : Option (Rc Entry Global)) (slots : List Slot) → entry_in slots id ≡ was → (other : ObjId) → entry_in (with_entry id was slots) other ≡ entry_in slots other
same id was [] there other = refl
same id was (slot ∷ slots) there other = go (slot.id.0 == id.0) (λ e. same id was slots e other) there
  where
    go : (b : Bool) → (entry_in slots id ≡ was → entry_in (with_entry id was slots) other ≡ entry_in slots other) → (if b then slot.entry else entry_in slots id) ≡ was
        → entry_in (if b then record { id = slot.id; entry = was } ∷ slots else slot ∷ with_entry id was slots) other ≡ (if slot.id.0 == other.0 then slot.entry else entry_in slots other)
    go true rest e = ap (λ (entry : Option (Rc Entry Global)). if slot.id.0 == other.0 then entry else entry_in slots other) (sym e)
    go false rest e = ap (λ (later : Option (Rc Entry Global)). if slot.id.0 == other.0 then slot.entry else later) (rest e)

pub back : (id : ObjId) (was now : Option (Rc Entry Global)) (slots : List Slot) → entry_in slots id ≡ was → (other : ObjId) → entry_in (with_entry id was (with_entry id now slots)) other ≡ entry_in slots other
back id was now slots there other = ap (λ (found : List Slot). entry_in found other) (twice id was now slots) ∙ same id was slots there other

-- the place of an object that is gone shows nothing
gone : (id : ObjId) (slots : List Slot) (other : ObjId) → entry_in (slots ++ record { id = id; entry = None } ∷ []) other ≡ entry_in slots other
gone id [] other = go (id.0 == other.0)
  where
    go : (b : Bool) → if◌then◌else◌ {A = Option (Rc Entry Global)} b None None ≡ None
    go true = refl
    go false = refl
gone id (slot ∷ slots) other = ap (λ (later : Option (Rc Entry Global)). if slot.id.0 == other.0 then slot.entry else later) (gone id slots other)

ordered : (slots : List Slot) (low high : ℕ) → AreBetween number low slots high → low ≤ high
ordered [] low high up = up
ordered (slot ∷ slots) low high up = omega (arith, up.0, ordered slots (slot.id.0 + 1) high up.1)

last : (id : ObjId) (entry now : Option (Rc Entry Global)) (slots : List Slot) (low high : ℕ) → AreBetween number low slots high → high ≤ id.0 → with_entry id now (slots ++ record { id = id; entry = entry } ∷ []) ≡ slots ++ record { id = id; entry = now } ∷ []
last id entry now [] low high up le = go (id.0 == id.0) refl
  where
    go : (b : Bool) → (id.0 == id.0) ≡ b → if◌then◌else◌ {A = List Slot} b (record { id = id; entry = now } ∷ []) (record { id = id; entry = entry } ∷ []) ≡ record { id = id; entry = now } ∷ []
    go true e = refl
    go false e = absurd (grind (arith, nat_tests, e))
last id entry now (slot ∷ slots) low high up le = go (slot.id.0 == id.0) refl (last id entry now slots (slot.id.0 + 1) high up.1 le)
  where
    go : (b : Bool) → (slot.id.0 == id.0) ≡ b → with_entry id now (slots ++ record { id = id; entry = entry } ∷ []) ≡ slots ++ record { id = id; entry = now } ∷ []
        → if◌then◌else◌ {A = List Slot} b (record { id = slot.id; entry = now } ∷ (slots ++ record { id = id; entry = entry } ∷ [])) (slot ∷ with_entry id now (slots ++ record { id = id; entry = entry } ∷ [])) ≡ slot ∷ (slots ++ record { id = id; entry = now } ∷ [])
    go true e rest = let below = ordered slots (slot.id.0 + 1) high up.1 in absurd (grind (arith, nat_tests, e, below, le))
    go false e rest = ap (λ (more : List Slot). slot ∷ more) rest

pub made : (id : ObjId) (entry : Option (Rc Entry Global)) (slots : List Slot) (high : ℕ) → AreBetween number 0 slots high → high ≤ id.0 → (other : ObjId) → entry_in (with_entry id None (slots ++ record { id = id; entry = entry } ∷ [])) other ≡ entry_in slots other
made id entry slots high up le other = ap (λ (found : List Slot). entry_in found other) (last id entry None slots 0 high up le) ∙ gone id slots other
