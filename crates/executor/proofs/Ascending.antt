-- The slots of a scan of a table ascend.
use Rattle.std.proofs.Common.{◌≡◌, ℕ, ◌+◌, ◌≤◌, Bool, true, false, Option, None, Some, Ok, Err, List, [], ◌∷◌, ◌++◌, map, get_or, suc, zero, refl, sym, ap, ◌∙◌, subst, arith}
use Rattle.std.proofs.lemmas.Bool.Decides.{nat_tests}
use Rattle.std.specs.Prelude.{if◌then◌else◌, IsPermutation, IsSorted}
use Rattle.std.specs.Ordering.{nat_cmp, is_lt}
use Rattle.std.proofs.lemmas.List.Sorted.{IsPermutation-refl}
use Rattle.q_base.specs.declared.ids.SlotId.{SlotId}
use Rattle.q_value.specs.declared.value.Value.{Value}
use Rattle.query_tree.specs.declared.target.Target.{Target}
use Rattle.row_versions.specs.declared.slot.Version.{Version}
use Rattle.row_versions.specs.Versions.{shown_in}
use Rattle.row_versions.specs.Stored.{rows_in, with_row}
use Rattle.executor.specs.Lists.{Rows, kept, all_true}
use Rattle.executor.specs.Scans.{found_at}
use Rattle.executor.specs.Slots.{with_slot, slots_from, with_number, numbers_of, AreAscending}

abbrev Row : Type 0
Row = ℕ × List Value

abbrev rows : List Row → Rows
rows found = map (λ (row : Row). Ok (found_at row.0 row.1)) found

abbrev number : SlotId → ℕ
number slot = slot.0

-- each number is n or more, and none is less than the one before it
abbrev Rises : ℕ → List ℕ → Type 0
Rises n [] = Unit {0}
Rises n (x ∷ xs) = (n ≤ x) × Rises x xs

rises_from : (m n : ℕ) (xs : List ℕ) → m ≤ n → Rises n xs → Rises m xs
rises_from m n [] le rises = tt
rises_from m n (x ∷ xs) le rises = (omega arith, rises.1)

not_less : (x y : ℕ) → x ≤ y → is_lt (nat_cmp y x) ≡ false
not_less x y le = grind (arith, nat_tests)

sorted : (n : ℕ) (xs : List ℕ) → Rises n xs → IsSorted nat_cmp xs
sorted n [] rises k d low high = absurd (omega arith)
sorted n (x ∷ []) rises k d low high = absurd (omega arith)
sorted n (x ∷ y ∷ xs) rises zero d low high = not_less x y rises.1.0
sorted n (x ∷ y ∷ xs) rises (suc k) d low high =
    let next : suc (k + 1) ≡ suc k + 1 = omega arith in
    subst (λ m. is_lt (nat_cmp (get_or (x ∷ y ∷ xs) m d) (get_or (x ∷ y ∷ xs) (suc k) d)) ≡ false) next (sorted x (y ∷ xs) rises.1 k d (omega arith) (omega arith))

shown_rises : (conds : List Target) (params : List Value) (snap from : ℕ) (slots : List (List Version)) → Rises from (numbers_of (kept conds params (rows (rows_in from slots snap))))
shown_rises conds params snap from [] = tt
shown_rises conds params snap from (versions ∷ slots) = go (shown_in versions snap) (shown_rises conds params snap (from + 1) slots)
  where
    passed : (row : List Value) (b : Bool) → Rises (from + 1) (numbers_of (kept conds params (rows (rows_in (from + 1) slots snap)))) → Rises from (numbers_of (if b then Ok (found_at from row) ∷ kept conds params (rows (rows_in (from + 1) slots snap)) else kept conds params (rows (rows_in (from + 1) slots snap))))
    passed row true rises = (omega arith, rises_from from (from + 1) _ (omega arith) rises)
    passed row false rises = rises_from from (from + 1) _ (omega arith) rises

    go : (shown : Option (List Value)) → Rises (from + 1) (numbers_of (kept conds params (rows (rows_in (from + 1) slots snap)))) → Rises from (numbers_of (kept conds params (rows (with_row from shown (rows_in (from + 1) slots snap)))))
    go None rises = rises_from from (from + 1) _ (omega arith) rises
    go (Some row) rises = passed row (all_true conds row params) rises

map_append : (xs ys : List SlotId) → map number (xs ++ ys) ≡ map number xs ++ map number ys
map_append [] ys = refl
map_append (x ∷ xs) ys = ap (λ l. number x ∷ l) (map_append xs ys)

append_more : (xs : List ℕ) (y : ℕ) (ys : List ℕ) → (xs ++ y ∷ []) ++ ys ≡ xs ++ y ∷ ys
append_more [] y ys = refl
append_more (x ∷ xs) y ys = ap (λ l. x ∷ l) (append_more xs y ys)

append_none : (xs : List ℕ) → xs ++ [] ≡ xs
append_none [] = refl
append_none (x ∷ xs) = ap (λ l. x ∷ l) (append_none xs)

pub slots_numbered : (slots : List SlotId) (found : Rows) → map number (slots_from slots found) ≡ map number slots ++ numbers_of found
slots_numbered slots [] = sym (append_none (map number slots))
slots_numbered slots (Err code ∷ more) = sym (append_none (map number slots))
slots_numbered slots (Ok found ∷ more) = go (λ all. slots_numbered all more) found.slot
  where
    go : ((all : List SlotId) → map number (slots_from all more) ≡ map number all ++ numbers_of more) → (slot : Option ℕ) → map number (slots_from (with_slot slots slot) more) ≡ map number slots ++ with_number slot (numbers_of more)
    go behind None = behind slots
    go behind (Some slot) = behind (slots ++ record { 0 = slot } ∷ []) ∙ ap (λ l. l ++ numbers_of more) (map_append slots (record { 0 = slot } ∷ [])) ∙ append_more (map number slots) slot (numbers_of more)

same_ascending : (found : Rows) (slots : List SlotId) → map number slots ≡ numbers_of found → IsSorted nat_cmp (numbers_of found) → AreAscending found slots
same_ascending found slots same up = record {
  same = subst (λ l. IsPermutation (numbers_of found) l) (sym same) (IsPermutation-refl (numbers_of found));
  sorted = subst (λ l. IsSorted nat_cmp l) (sym same) up;
}

-- the slots of the rows that a table shows and on which conditions are true
pub scanned_ascending : (conds : List Target) (params : List Value) (snap from : ℕ) (stored : List (List Version)) (slots : List SlotId) → slots ≡ slots_from [] (kept conds params (rows (rows_in from stored snap))) → AreAscending (kept conds params (rows (rows_in from stored snap))) slots
scanned_ascending conds params snap from stored slots is =
    let found = kept conds params (rows (rows_in from stored snap)) in
    same_ascending found slots (ap (map number) is ∙ slots_numbered [] found) (sorted from (numbers_of found) (shown_rises conds params snap from stored))
