use Rattle.std.proofs.Common.{◌≡◌, ℕ, ◌+◌, Option, Some, None, List, [], ◌∷◌, length, get_or, suc, zero, refl, ap, arith}
use Rattle.std.specs.Prelude.{count_by, sum_by, is_some}
use Rattle.std.proofs.lemmas.List.Sums.{sum_by-cons}
use Rattle.q_value.specs.declared.value.Value.{Value}
use Rattle.row_versions.specs.declared.slot.Version.{Version}
use Rattle.row_versions.specs.declared.tables.Place.{Place}
use Rattle.row_versions.specs.Versions.{shown_in}
use Rattle.row_versions.specs.Stored.{Stored, with_row, rows_in, slots_at, versions_in, is_live, live_of}
use Rattle.row_versions.specs.Sound.{IsHistory}
use Rattle.row_versions.specs.State.{State, live_rows}
use Rattle.row_versions.proofs.Histories.{is_some_shown}
use Rattle.row_versions.proofs.Live.{one_if}

length-with_row : (k : ℕ) (first : Option (List Value)) (rows : List (ℕ × List Value)) → length (with_row k first rows) ≡ one_if (is_some first) + length rows
length-with_row k None rows = omega arith
length-with_row k (Some row) rows = omega arith

rows_count : (slots : List (List Version)) (k moment : ℕ) → ((s : ℕ) → IsHistory moment (get_or slots s [])) → length (rows_in k slots moment) ≡ count_by is_live slots
rows_count [] k moment dated = refl
rows_count (versions ∷ slots) k moment dated =
    omega (arith, length-with_row k (shown_in versions moment) (rows_in (k + 1) slots moment), ap one_if (is_some_shown moment versions (dated zero)), rows_count slots (k + 1) moment (λ s. dated (suc s)), sum_by-cons (λ (v : List Version). one_if (is_live v)) versions slots)

live_rows_of : (tables : List Stored) (moment : ℕ) → ((t s : ℕ) → IsHistory moment (get_or (slots_at t tables) s [])) → sum_by (λ (table : Stored). length (rows_in 0 table.slots moment)) tables ≡ live_of tables
live_rows_of [] moment dated = refl
live_rows_of (t ∷ tables) moment dated =
    omega (arith, sum_by-cons (λ (table : Stored). length (rows_in 0 table.slots moment)) t tables, sum_by-cons (λ (table : Stored). count_by is_live table.slots) t tables, rows_count t.slots 0 moment (dated zero), live_rows_of tables moment (λ n. dated (suc n)))

-- the rows that the newest snapshot shows are the live ones
pub live_rows_is : (state : State) → ((place : Place) → IsHistory state.newest (versions_in place state.tables)) → live_rows state ≡ live_of state.tables
live_rows_is state dated = live_rows_of state.tables state.newest (λ t s. dated (record { table = t; slot = s }))
