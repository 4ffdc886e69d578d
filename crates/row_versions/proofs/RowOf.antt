use Rattle.std.proofs.Common.{◌≡◌, ℕ, ◌+◌, ◌<◌, cond, Option, Some, None, List, [], ◌∷◌, get_or, suc, zero, refl, ap, ◌∙◌, arith}
use Rattle.std.proofs.lemmas.Bool.{ne_eqb, eq-eqb}
use Rattle.q_value.specs.declared.value.Value.{Value}
use Rattle.row_versions.specs.declared.slot.Version.{Version}
use Rattle.row_versions.specs.Versions.{shown_in}
use Rattle.row_versions.specs.Stored.{with_row, rows_in}
use Rattle.row_versions.specs.State.{row_of}

row_of-other : (slot k : ℕ) (first : Option (List Value)) (rows : List (ℕ × List Value)) → (k ≡ slot → ⊥) → row_of slot (with_row k first rows) ≡ row_of slot rows
row_of-other slot k None rows ne = refl
row_of-other slot k (Some row) rows ne = ap (λ b. cond b (Some row) (row_of slot rows)) (ne_eqb k slot ne)

row_of_above : (slot k : ℕ) (slots : List (List Version)) (snap : ℕ) → slot < k → row_of slot (rows_in k slots snap) ≡ None
row_of_above slot k [] snap lt = refl
row_of_above slot k (versions ∷ slots) snap lt =
    row_of-other slot k (shown_in versions snap) (rows_in (k + 1) slots snap) (λ e. omega arith) ∙ row_of_above slot (k + 1) slots snap (omega arith)

row_of-here : (slot k : ℕ) (first : Option (List Value)) (rows : List (ℕ × List Value)) → k ≡ slot → row_of slot rows ≡ None → row_of slot (with_row k first rows) ≡ first
row_of-here slot k None rows e none = none
row_of-here slot k (Some row) rows e none = ap (λ b. cond b (Some row) (row_of slot rows)) (eq-eqb k slot e)

-- the rows from a number on have what the slots show
pub row_of-rows_in : (slots : List (List Version)) (n k slot snap : ℕ) → slot ≡ k + n → row_of slot (rows_in k slots snap) ≡ shown_in (get_or slots n []) snap
row_of-rows_in [] n k slot snap at = refl
row_of-rows_in (versions ∷ slots) zero k slot snap at =
    row_of-here slot k (shown_in versions snap) (rows_in (k + 1) slots snap) (omega arith) (row_of_above slot (k + 1) slots snap (omega arith))
row_of-rows_in (versions ∷ slots) (suc n) k slot snap at =
    row_of-other slot k (shown_in versions snap) (rows_in (k + 1) slots snap) (λ e. omega arith) ∙ row_of-rows_in slots n (k + 1) slot snap (omega arith)
