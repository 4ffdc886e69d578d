-- The rows of stamps, by ascending ids.
use Rattle.std.proofs.Common.{◌≡◌, ℕ, zero, suc, ◌+◌, ◌==◌, ◌<◌, ◌≤◌, Bool, true, false, if◌then◌else◌, List, [], ◌∷◌, length, get_or, set, Option, Some, None, ap, sym, refl, arith}
use Rattle.std.proofs.lemmas.Bool.Decides.{nat_tests}
use Rattle.q_base.specs.declared.ids.ObjId.{ObjId}
use Rattle.q_base.specs.declared.ids.Stamp.{Stamp}
use Rattle.cat_core.specs.declared.stamps.StampRow.{StampRow}
use Rattle.cat_core.specs.Ages.{AreBetween, IsPlace}
use Rattle.cat_core.specs.Stamps.{stamp_in, with_stamp, stamped_at, stamp_of_row}
use Rattle.cat_core.proofs.Ages.{at_least}

abbrev pub number : StampRow → ℕ
number row = row.id.0

-- the row of an id is no earlier row
later : (row : StampRow) (rows : List StampRow) (id : ObjId) (low high i : ℕ) → AreBetween number low (row ∷ rows) high → i < length rows → ((d : StampRow) → number (get_or rows i d) ≡ id.0) → (row.id.0 == id.0) ≡ false
later row rows id low high i up lt same = let above = at_least number rows (row.id.0 + 1) high up.1 i row lt in grind (arith, nat_tests, above, same row)

there : (rows : List StampRow) (id : ObjId) (low high i : ℕ) → AreBetween number low rows high → i < length rows → ((d : StampRow) → number (get_or rows i d) ≡ id.0) → stamp_of_row rows (Some i) ≡ stamp_in rows id
there [] id low high i up lt same = absurd (omega arith)
there (row ∷ rows) id low high zero up lt same = go (row.id.0 == id.0) refl
  where
    go : (b : Bool) → (row.id.0 == id.0) ≡ b → row.stamp ≡ (if b then row.stamp else stamp_in rows id)
    go true e = refl
    go false e = absurd (grind (arith, nat_tests, e, same row))
there (row ∷ rows) id low high (suc i) up lt same =
    rw (later row rows id low high i up (omega arith) (λ d. same d)) (there rows id (row.id.0 + 1) high i up.1 (omega arith) (λ d. same d))

absent : (rows : List StampRow) (id : ObjId) → IsPlace number id.0 rows None → stamp_in rows id ≡ None
absent [] id none = refl
absent (row ∷ rows) id none = go (row.id.0 == id.0) refl (absent rows id (λ i d lt. none (suc i) d (omega arith)))
  where
    go : (b : Bool) → (row.id.0 == id.0) ≡ b → stamp_in rows id ≡ None → (if b then row.stamp else stamp_in rows id) ≡ None
    go true e rest = absurd (none 0 row (omega arith) (grind (arith, nat_tests, e)))
    go false e rest = rest

pub stamp_placed : (rows : List StampRow) (id : ObjId) (place : Option ℕ) (high : ℕ) → AreBetween number 0 rows high → IsPlace number id.0 rows place → stamp_of_row rows place ≡ stamp_in rows id
stamp_placed rows id None high up none = sym (absent rows id none)
stamp_placed rows id (Some i) high up found = there rows id 0 high i up found.0 found.1

pub with_absent : (rows : List StampRow) (id : ObjId) (stamp : Option Stamp) → IsPlace number id.0 rows None → with_stamp id stamp rows ≡ rows
with_absent [] id stamp none = refl
with_absent (row ∷ rows) id stamp none = go (row.id.0 == id.0) refl (with_absent rows id stamp (λ i d lt. none (suc i) d (omega arith)))
  where
    go : (b : Bool) → (row.id.0 == id.0) ≡ b → with_stamp id stamp rows ≡ rows → (if b then record { id = row.id; stamp = stamp } ∷ rows else row ∷ with_stamp id stamp rows) ≡ row ∷ rows
    go true e rest = absurd (none 0 row (omega arith) (grind (arith, nat_tests, e)))
    go false e rest = ap (λ (more : List StampRow). row ∷ more) rest

pub with_there : (rows : List StampRow) (id : ObjId) (stamp : Option Stamp) (low high i : ℕ) → AreBetween number low rows high → i < length rows → ((d : StampRow) → number (get_or rows i d) ≡ id.0) → with_stamp id stamp rows ≡ stamped_at i stamp rows
with_there [] id stamp low high i up lt same = absurd (omega arith)
with_there (row ∷ rows) id stamp low high zero up lt same = go (row.id.0 == id.0) refl
  where
    go : (b : Bool) → (row.id.0 == id.0) ≡ b → (if b then record { id = row.id; stamp = stamp } ∷ rows else row ∷ with_stamp id stamp rows) ≡ record { id = row.id; stamp = stamp } ∷ rows
    go true e = refl
    go false e = absurd (grind (arith, nat_tests, e, same row))
with_there (row ∷ rows) id stamp low high (suc i) up lt same =
    rw (later row rows id low high i up (omega arith) (λ d. same d)) (ap (λ (more : List StampRow). row ∷ more) (with_there rows id stamp (row.id.0 + 1) high i up.1 (omega arith) (λ d. same d)))

pub stamped_in : (rows : List StampRow) (i : ℕ) (stamp : Option Stamp) (row : StampRow) → i < length rows → row ≡ get_or rows i row → set rows i (record { id = row.id; stamp = stamp }) ≡ stamped_at i stamp rows
stamped_in [] i stamp row lt same = absurd (omega arith)
stamped_in (first ∷ rows) zero stamp row lt same = ap (λ (r : StampRow). record { id = r.id; stamp = stamp } ∷ rows) same
stamped_in (first ∷ rows) (suc i) stamp row lt same = ap (λ (more : List StampRow). first ∷ more) (stamped_in rows i stamp row (omega arith) same)

pub stamped_past : (rows : List StampRow) (i : ℕ) (stamp : Option Stamp) → length rows ≤ i → stamped_at i stamp rows ≡ rows
stamped_past [] i stamp le = refl
stamped_past (row ∷ rows) zero stamp le = absurd (omega arith)
stamped_past (row ∷ rows) (suc i) stamp le = ap (λ (more : List StampRow). row ∷ more) (stamped_past rows i stamp (omega arith))

pub between_stamped : (rows : List StampRow) (i : ℕ) (stamp : Option Stamp) (low high : ℕ) → AreBetween number low rows high → AreBetween number low (stamped_at i stamp rows) high
between_stamped [] i stamp low high up = up
between_stamped (row ∷ rows) zero stamp low high up = up
between_stamped (row ∷ rows) (suc i) stamp low high up = (up.0, between_stamped rows i stamp (row.id.0 + 1) high up.1)
