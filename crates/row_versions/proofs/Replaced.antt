use Rattle.std.proofs.Common.{◌≡◌, ℕ, ◌+◌, ◌<◌, true, cond, not, Option, Some, None, List, [], ◌∷◌, get_or, suc, zero, refl, sym, ap, ◌∙◌, arith}
use Rattle.std.specs.Prelude.{is_some}
use Rattle.std.proofs.lemmas.Bool.{ne_eqb, eq-eqb}
use Rattle.q_value.specs.declared.value.Value.{Value}
use Rattle.row_versions.specs.declared.slot.Version.{Version}
use Rattle.row_versions.specs.Versions.{shown_in}
use Rattle.row_versions.specs.Stored.{changed, with_row, rows_in}
use Rattle.row_versions.specs.State.{replaced, without}

replaced-with_row : (slot k : ℕ) (row : List Value) (first : Option (List Value)) (rows : List (ℕ × List Value)) → (k ≡ slot → ⊥) → replaced slot row (with_row k first rows) ≡ with_row k first (replaced slot row rows)
replaced-with_row slot k row None rows ne = refl
replaced-with_row slot k row (Some r) rows ne = ap (λ b. cond b (slot, row) (k, r) ∷ replaced slot row rows) (ne_eqb k slot ne)

without-with_row : (slot k : ℕ) (first : Option (List Value)) (rows : List (ℕ × List Value)) → (k ≡ slot → ⊥) → without slot (with_row k first rows) ≡ with_row k first (without slot rows)
without-with_row slot k None rows ne = refl
without-with_row slot k (Some r) rows ne = ap (λ b. cond (not b) ((k, r) ∷ without slot rows) (without slot rows)) (ne_eqb k slot ne)

-- slots further on are not meant
replaced_above : (slot k : ℕ) (row : List Value) (slots : List (List Version)) (moment : ℕ) → slot < k → replaced slot row (rows_in k slots moment) ≡ rows_in k slots moment
replaced_above slot k row [] moment lt = refl
replaced_above slot k row (versions ∷ slots) moment lt =
    replaced-with_row slot k row (shown_in versions moment) (rows_in (k + 1) slots moment) (λ e. omega arith) ∙ ap (with_row k (shown_in versions moment)) (replaced_above slot (k + 1) row slots moment (omega arith))

without_above : (slot k : ℕ) (slots : List (List Version)) (moment : ℕ) → slot < k → without slot (rows_in k slots moment) ≡ rows_in k slots moment
without_above slot k [] moment lt = refl
without_above slot k (versions ∷ slots) moment lt =
    without-with_row slot k (shown_in versions moment) (rows_in (k + 1) slots moment) (λ e. omega arith) ∙ ap (with_row k (shown_in versions moment)) (without_above slot (k + 1) slots moment (omega arith))

replaced_first : (k : ℕ) (row : List Value) (first : Option (List Value)) (rows : List (ℕ × List Value)) → is_some first ≡ true → replaced k row rows ≡ rows → with_row k (Some row) rows ≡ replaced k row (with_row k first rows)
replaced_first k row None rows some rest = cc
replaced_first k row (Some r) rows some rest =
    ap (λ more. (k, row) ∷ more) (sym rest) ∙ sym (ap (λ b. cond b (k, row) (k, r) ∷ replaced k row rows) (eq-eqb k k refl))

without_first : (k : ℕ) (first : Option (List Value)) (rows : List (ℕ × List Value)) → without k rows ≡ rows → with_row k None rows ≡ without k (with_row k first rows)
without_first k None rows rest = sym rest
without_first k (Some r) rows rest = sym rest ∙ sym (ap (λ b. cond (not b) ((k, r) ∷ without k rows) (without k rows)) (eq-eqb k k refl))

-- a change that shows another row replaces that of the slot
pub rows_in-replaced : (f : List Version → List Version) (row : List Value) (slots : List (List Version)) (n k slot moment : ℕ) → shown_in (f (get_or slots n [])) moment ≡ Some row → is_some (shown_in (get_or slots n []) moment) ≡ true → slot ≡ k + n → rows_in k (changed n f slots) moment ≡ replaced slot row (rows_in k slots moment)
rows_in-replaced f row [] n k slot moment now was at = refl
rows_in-replaced f row (versions ∷ slots) zero k slot moment now was at =
    let same : slot ≡ k = omega arith in
    ap (λ r. with_row k r (rows_in (k + 1) slots moment)) now ∙ replaced_first k row (shown_in versions moment) (rows_in (k + 1) slots moment) was (replaced_above k (k + 1) row slots moment (omega arith)) ∙ ap (λ s. replaced s row (with_row k (shown_in versions moment) (rows_in (k + 1) slots moment))) (sym same)
rows_in-replaced f row (versions ∷ slots) (suc n) k slot moment now was at =
    ap (with_row k (shown_in versions moment)) (rows_in-replaced f row slots n (k + 1) slot moment now was (omega arith)) ∙ sym (replaced-with_row slot k row (shown_in versions moment) (rows_in (k + 1) slots moment) (λ e. omega arith))

-- one that shows none removes it
pub rows_in-without : (f : List Version → List Version) (slots : List (List Version)) (n k slot moment : ℕ) → shown_in (f (get_or slots n [])) moment ≡ None → slot ≡ k + n → rows_in k (changed n f slots) moment ≡ without slot (rows_in k slots moment)
rows_in-without f [] n k slot moment now at = refl
rows_in-without f (versions ∷ slots) zero k slot moment now at =
    let same : slot ≡ k = omega arith in
    ap (λ r. with_row k r (rows_in (k + 1) slots moment)) now ∙ without_first k (shown_in versions moment) (rows_in (k + 1) slots moment) (without_above k (k + 1) slots moment (omega arith)) ∙ ap (λ s. without s (with_row k (shown_in versions moment) (rows_in (k + 1) slots moment))) (sym same)
rows_in-without f (versions ∷ slots) (suc n) k slot moment now at =
    ap (with_row k (shown_in versions moment)) (rows_in-without f slots n (k + 1) slot moment now (omega arith)) ∙ sym (without-with_row slot k (shown_in versions moment) (rows_in (k + 1) slots moment) (λ e. omega arith))
