use Rattle.std.proofs.Common.{◌≡◌, refl, sym, ◌∙◌, ap, ℕ, zero, suc, ◌+◌, List, [], ◌∷◌, ◌++◌, Option, Some, None, arith}
use Rattle.q_base.specs.declared.ids.ObjId.{ObjId}
use Rattle.q_base.specs.declared.ids.Stamp.{Stamp}
use Rattle.cat_core.specs.declared.slots.Slot.{Slot}
use Rattle.cat_core.specs.declared.stamps.StampRow.{StampRow}
use Rattle.cat_undo.specs.declared.now.Now.{Now}
use Rattle.cat_undo.specs.Restored.{heard, given_new, with_new, new_at, last_with, last_restamped, restamped, row_new, told_with, told_at, told_restamped, settled, settled_at, told_settled}

-- hearing of one list and then of another
pub heard-append : {T : Type 0} (hear : T → ObjId → T) (xs ys : List ObjId) (marks : T) → heard hear (xs ++ ys) marks ≡ heard hear ys (heard hear xs marks)
heard-append hear [] ys marks = refl
heard-append hear (x ∷ xs) ys marks = heard-append hear xs ys (hear marks x)

-- the first place
here : (row : StampRow) (rows : List StampRow) (new : Option (Option Stamp)) → given_new 0 new (row ∷ rows) ≡ with_new new row ∷ rows
here row rows None = refl
here row rows (Some stamp) = refl

-- a later place
there : (n : ℕ) (row : StampRow) (rows : List StampRow) (new : Option (Option Stamp)) → given_new (suc n) new (row ∷ rows) ≡ row ∷ given_new n new rows
there n row rows None = refl
there n row rows (Some stamp) = refl

-- one row more has its stamp
pub restamped-more : (n : ℕ) (slots : List Slot) (copied last : ℕ) (rows : List StampRow) →
    given_new n (new_at n slots copied (last_restamped n slots copied last rows) (restamped n slots copied last rows)) (restamped n slots copied last rows)
    ≡ restamped (suc n) slots copied last rows
restamped-more zero slots copied last [] = refl
restamped-more zero slots copied last (row ∷ rows) = here row rows (row_new slots copied last row)
restamped-more (suc n) slots copied last [] = refl
restamped-more (suc n) slots copied last (row ∷ rows) =
    there n (with_new (row_new slots copied last row) row) (restamped n slots copied (last_with (row_new slots copied last row) last) rows) _
    ∙ ap (λ more. with_new (row_new slots copied last row) row ∷ more) (restamped-more n slots copied (last_with (row_new slots copied last row) last) rows)

-- and the last stamp handed out
pub last-more : (n : ℕ) (slots : List Slot) (copied last : ℕ) (rows : List StampRow) →
    last_with (new_at n slots copied (last_restamped n slots copied last rows) (restamped n slots copied last rows)) (last_restamped n slots copied last rows)
    ≡ last_restamped (suc n) slots copied last rows
last-more zero slots copied last [] = refl
last-more zero slots copied last (row ∷ rows) = refl
last-more (suc n) slots copied last [] = refl
last-more (suc n) slots copied last (row ∷ rows) = last-more n slots copied (last_with (row_new slots copied last row) last) rows

-- and it is told of
pub told-more : {T : Type 0} (hear : T → ObjId → T) (n : ℕ) (slots : List Slot) (copied last : ℕ) (rows : List StampRow) (marks : T) →
    heard hear (told_at n slots copied (last_restamped n slots copied last rows) (restamped n slots copied last rows)) (heard hear (told_restamped n slots copied last rows) marks)
    ≡ heard hear (told_restamped (suc n) slots copied last rows) marks
told-more hear zero slots copied last [] marks = refl
told-more hear zero slots copied last (row ∷ rows) marks = sym (heard-append hear (told_with (row_new slots copied last row) row.id) [] marks)
told-more hear (suc n) slots copied last [] marks = refl
told-more hear (suc n) slots copied last (row ∷ rows) marks =
    ap (λ m. heard hear (told_at (suc n) slots copied (last_restamped (suc n) slots copied last (row ∷ rows)) (restamped (suc n) slots copied last (row ∷ rows))) m) (heard-append hear (told_with (row_new slots copied last row) row.id) (told_restamped n slots copied (last_with (row_new slots copied last row) last) rows) marks)
    ∙ told-more hear n slots copied (last_with (row_new slots copied last row) last) rows (heard hear (told_with (row_new slots copied last row) row.id) marks)
    ∙ sym (heard-append hear (told_with (row_new slots copied last row) row.id) (told_restamped (suc n) slots copied (last_with (row_new slots copied last row) last) rows) marks)

-- the state of these rows and this last stamp
abbrev with : Now → List StampRow → ℕ → Now
with now rows last = record { catalog = now.catalog; stamps = record { rows = rows; all = now.stamps.all; next_id = now.stamps.next_id }; last_stamp = last }

-- one row more is settled
pub settled-more : (n copied : ℕ) (now : Now) → settled_at n copied (settled n copied now) ≡ settled (n + 1) copied now
settled-more n copied now =
    let more : suc n ≡ n + 1 = omega arith in
    ap (λ rows. with now rows (last_with (new_at n now.catalog.slots copied (last_restamped n now.catalog.slots copied now.last_stamp now.stamps.rows) (restamped n now.catalog.slots copied now.last_stamp now.stamps.rows)) (last_restamped n now.catalog.slots copied now.last_stamp now.stamps.rows))) (restamped-more n now.catalog.slots copied now.last_stamp now.stamps.rows)
    ∙ ap (λ last. with now (restamped (suc n) now.catalog.slots copied now.last_stamp now.stamps.rows) last) (last-more n now.catalog.slots copied now.last_stamp now.stamps.rows)
    ∙ ap (λ m. settled m copied now) more

pub told_settled-more : {T : Type 0} (hear : T → ObjId → T) (n copied : ℕ) (now : Now) (marks : T) →
    heard hear (told_at n now.catalog.slots copied (settled n copied now).last_stamp (settled n copied now).stamps.rows) (heard hear (told_settled n copied now) marks) ≡ heard hear (told_settled (n + 1) copied now) marks
told_settled-more hear n copied now marks =
    let more : suc n ≡ n + 1 = omega arith in
    told-more hear n now.catalog.slots copied now.last_stamp now.stamps.rows marks ∙ ap (λ m. heard hear (told_settled m copied now) marks) more
