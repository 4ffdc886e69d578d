use Rattle.std.proofs.Common.{◌≡◌, ℕ, ◌+◌, ◌-◌, ◌<◌, ◌≤◌, Option, Some, None, List, [], ◌∷◌, get_or, drop, suc, zero, refl, sym, ap, ◌∙◌, inl, inr, arith}
use Rattle.std.specs.Prelude.{◌⊎◌}
use Rattle.std.proofs.lemmas.List.{get_or-drop, drop-drop}
use Rattle.q_base.specs.declared.ids.ObjId.{ObjId}
use Rattle.q_value.specs.declared.value.Value.{Value}
use Rattle.row_versions.specs.declared.slot.Version.{Version}
use Rattle.row_versions.specs.Versions.{shown_in}
use Rattle.row_versions.specs.Stored.{with_row, rows_in, first_of, slots_of}
use Rattle.row_versions.specs.State.{State, rows_from, IsLastRow, IsNextRow}

-- where the first of the rows of slots is
record Found (k : ℕ) (slots : List (List Version)) (snap : ℕ) : Type 0 where
  n : ℕ
  row : List Value
  shows : shown_in (get_or slots n []) snap ≡ Some row
  before : (i : ℕ) → i < n → shown_in (get_or slots i []) snap ≡ None
  rest : rows_in k slots snap ≡ (k + n, row) ∷ rows_in (k + n + 1) (drop (n + 1) slots) snap

record Nothing (k : ℕ) (slots : List (List Version)) (snap : ℕ) : Type 0 where
  none : (i : ℕ) → shown_in (get_or slots i []) snap ≡ None
  empty : rows_in k slots snap ≡ []

search_rows : (k : ℕ) (slots : List (List Version)) (snap : ℕ) → Nothing k slots snap ⊎ Found k slots snap
search_rows k [] snap = inl (record { none = λ i. refl; empty = refl })
search_rows k (versions ∷ slots) snap = go (shown_in versions snap) refl (search_rows (k + 1) slots snap)
  where
    none_more : shown_in versions snap ≡ None → ((i : ℕ) → shown_in (get_or slots i []) snap ≡ None) → (i : ℕ) → shown_in (get_or (versions ∷ slots) i []) snap ≡ None
    none_more first all zero = first
    none_more first all (suc i) = all i

    before_more : (n : ℕ) → shown_in versions snap ≡ None → ((i : ℕ) → i < n → shown_in (get_or slots i []) snap ≡ None) → (i : ℕ) → i < suc n → shown_in (get_or (versions ∷ slots) i []) snap ≡ None
    before_more n first all zero lt = first
    before_more n first all (suc i) lt = all i (omega arith)

    go : (o : Option (List Value)) → shown_in versions snap ≡ o → Nothing (k + 1) slots snap ⊎ Found (k + 1) slots snap → Nothing k (versions ∷ slots) snap ⊎ Found k (versions ∷ slots) snap
    go (Some row) e more = inr (record {
      n = 0;
      row = row;
      shows = e;
      before = λ i lt. absurd (omega arith);
      rest = ap (λ o. with_row k o (rows_in (k + 1) slots snap)) e ∙ ap (λ j. (j, row) ∷ rows_in (j + 1) slots snap) (let same : k ≡ k + 0 = omega arith in same);
    })
    go None e (inl nothing) = inl (record {
      none = none_more e nothing.none;
      empty = ap (λ o. with_row k o (rows_in (k + 1) slots snap)) e ∙ nothing.empty;
    })
    go None e (inr found) = inr (record {
      n = suc found.n;
      row = found.row;
      shows = found.shows;
      before = before_more found.n e found.before;
      rest = ap (λ o. with_row k o (rows_in (k + 1) slots snap)) e ∙ found.rest ∙ ap (λ j. (j, found.row) ∷ rows_in (j + 1) (drop (found.n + 1) slots) snap) (let same : k + 1 + found.n ≡ k + suc found.n = omega arith in same) ∙ ap (λ i. (k + suc found.n, found.row) ∷ rows_in (k + suc found.n + 1) (drop i (versions ∷ slots)) snap) (let same : suc (found.n + 1) ≡ suc found.n + 1 = omega arith in same);
    })

at_from : (slots : List (List Version)) (from slot snap : ℕ) → from ≤ slot → shown_in (get_or (drop from slots) (slot - from) []) snap ≡ shown_in (get_or slots slot []) snap
at_from slots from slot snap le = ap (λ v. shown_in v snap) (get_or-drop from slots (slot - from) [] ∙ ap (λ i. get_or slots i []) (let same : from + (slot - from) ≡ slot = omega arith in same))

pub last_row : (state : State) (table : ObjId) (from snap : ℕ) → first_of (rows_from state table from snap) ≡ None → IsLastRow state table from snap
last_row state table from snap first = go (search_rows from (drop from slots) snap)
  where
    slots : List (List Version)
    slots = slots_of table state.tables

    go : Nothing from (drop from (slots_of table state.tables)) snap ⊎ Found from (drop from (slots_of table state.tables)) snap → IsLastRow state table from snap
    go (inl nothing) = record {
      none = λ slot le. sym (at_from (slots_of table state.tables) from slot snap le) ∙ nothing.none (slot - from);
      rest = nothing.empty;
    }
    go (inr found) = absurd (let h : Some (from + found.n) ≡ None = sym (ap first_of found.rest) ∙ first in cc)

pub next_row : (state : State) (table : ObjId) (from snap slot : ℕ) → first_of (rows_from state table from snap) ≡ Some slot → IsNextRow state table from snap slot
next_row state table from snap slot first = go (search_rows from (drop from (slots_of table state.tables)) snap)
  where
    go : Nothing from (drop from (slots_of table state.tables)) snap ⊎ Found from (drop from (slots_of table state.tables)) snap → IsNextRow state table from snap slot
    go (inl nothing) = absurd (let h : None ≡ Some slot = sym (ap first_of nothing.empty) ∙ first in cc)
    go (inr found) =
        let slots = slots_of table state.tables in
        let here : from + found.n ≡ slot = (let h : Some (from + found.n) ≡ Some slot = sym (ap first_of found.rest) ∙ first in cc) in
        let n_is : found.n ≡ slot - from = omega arith in
        record {
          within = omega arith;
          row = found.row;
          shows = sym (at_from slots from slot snap (omega arith)) ∙ ap (λ i. shown_in (get_or (drop from slots) i []) snap) (sym n_is) ∙ found.shows;
          between = λ earlier le lt. sym (at_from slots from earlier snap le) ∙ found.before (earlier - from) (omega arith);
          rest =
              found.rest ∙ ap (λ (rest : List (List Version)). (from + found.n, found.row) ∷ rows_in (from + found.n + 1) rest snap) (drop-drop (found.n + 1) from slots)
              ∙ ap (λ i. (from + found.n, found.row) ∷ rows_in (from + found.n + 1) (drop i slots) snap) (let same : from + (found.n + 1) ≡ from + found.n + 1 = omega arith in same)
              ∙ ap (λ i. (i, found.row) ∷ rows_in (i + 1) (drop (i + 1) slots) snap) here;
        }
