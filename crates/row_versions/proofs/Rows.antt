use Rattle.std.proofs.Common.{◌≡◌, ℕ, ◌+◌, Option, Some, None, List, [], ◌∷◌, ◌++◌, length, get_or, suc, zero, refl, ap, ◌∙◌, arith}
use Rattle.std.specs.Option.{option_map_or}
use Rattle.q_base.specs.declared.ids.ObjId.{ObjId}
use Rattle.q_value.specs.declared.value.Value.{Value}
use Rattle.row_versions.specs.declared.slot.Version.{Version}
use Rattle.row_versions.specs.Versions.{shown_in}
use Rattle.row_versions.specs.Stored.{Stored, changed, with_row, with_slot, rows_in, position_of, slots_at, slots_of}

-- a change that the snapshot does not see leaves the rows that it shows
pub rows_in-changed : (f : List Version → List Version) (slots : List (List Version)) (n k snap : ℕ) → shown_in (f (get_or slots n [])) snap ≡ shown_in (get_or slots n []) snap → rows_in k (changed n f slots) snap ≡ rows_in k slots snap
rows_in-changed f [] n k snap h = refl
rows_in-changed f (versions ∷ slots) zero k snap h = ap (λ row. with_row k row (rows_in (k + 1) slots snap)) h
rows_in-changed f (versions ∷ slots) (suc n) k snap h = ap (with_row k (shown_in versions snap)) (rows_in-changed f slots n (k + 1) snap h)

-- so does a new slot that shows nothing
pub rows_in-padded : (versions : List Version) (slots : List (List Version)) (k snap : ℕ) → shown_in versions snap ≡ None → rows_in k (slots ++ versions ∷ []) snap ≡ rows_in k slots snap
rows_in-padded versions [] k snap h = ap (λ row. with_row k row []) h
rows_in-padded versions (first ∷ slots) k snap h = ap (with_row k (shown_in first snap)) (rows_in-padded versions slots (k + 1) snap h)

with_row-push : (k n : ℕ) (row : List Value) (first : Option (List Value)) (rows : List (ℕ × List Value)) → with_row k first (rows ++ (n, row) ∷ []) ≡ with_row k first rows ++ (n, row) ∷ []
with_row-push k n row None rows = refl
with_row-push k n row (Some r) rows = refl

-- one that shows a row adds it at the end
pub rows_in-pushed : (versions : List Version) (row : List Value) (slots : List (List Version)) (k n snap : ℕ) → shown_in versions snap ≡ Some row → n ≡ k + length slots → rows_in k (slots ++ versions ∷ []) snap ≡ rows_in k slots snap ++ (n, row) ∷ []
rows_in-pushed versions row [] k n snap h at = ap (λ r. with_row k r []) h ∙ ap (λ i. (i, row) ∷ []) (let e : k ≡ n = omega arith in e)
rows_in-pushed versions row (first ∷ slots) k n snap h at =
    ap (with_row k (shown_in first snap)) (rows_in-pushed versions row slots (k + 1) n snap h (omega arith)) ∙ with_row-push k n row (shown_in first snap) (rows_in (k + 1) slots snap)

-- slots that show the same give the same rows
pub rows_in-alike : (slots : List (List Version)) (k one other : ℕ) → ((n : ℕ) → shown_in (get_or slots n []) one ≡ shown_in (get_or slots n []) other) → rows_in k slots one ≡ rows_in k slots other
rows_in-alike [] k one other h = refl
rows_in-alike (versions ∷ slots) k one other h =
    ap (λ row. with_row k row (rows_in (k + 1) slots one)) (h zero) ∙ ap (with_row k (shown_in versions other)) (rows_in-alike slots (k + 1) one other (λ n. h (suc n)))

-- where each table at its place shows the same, each table does
pub same_rows : (old new : List Stored) (id : ObjId) (before after : ℕ) → position_of id.0 new ≡ position_of id.0 old → ((t : ℕ) → rows_in 0 (slots_at t new) after ≡ rows_in 0 (slots_at t old) before) → rows_in 0 (slots_of id new) after ≡ rows_in 0 (slots_of id old) before
same_rows old new id before after places h =
    ap (λ o. rows_in 0 (option_map_or (λ t. slots_at t new) o []) after) places ∙ go (position_of id.0 old)
  where
    go : (o : Option ℕ) → rows_in 0 (option_map_or (λ t. slots_at t new) o []) after ≡ rows_in 0 (option_map_or (λ t. slots_at t old) o []) before
    go None = refl
    go (Some t) = h t

-- a new slot that shows nothing leaves the rows of every table
pub rows_padded : (versions : List Version) (tables : List Stored) (n t snap : ℕ) → shown_in versions snap ≡ None → rows_in 0 (slots_at t (with_slot n versions tables)) snap ≡ rows_in 0 (slots_at t tables) snap
rows_padded versions [] n t snap h = refl
rows_padded versions (u ∷ tables) zero zero snap h = rows_in-padded versions u.slots 0 snap h
rows_padded versions (u ∷ tables) zero (suc t) snap h = refl
rows_padded versions (u ∷ tables) (suc n) zero snap h = refl
rows_padded versions (u ∷ tables) (suc n) (suc t) snap h = rows_padded versions tables n t snap h
