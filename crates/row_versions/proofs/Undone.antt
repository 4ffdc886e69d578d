use Rattle.std.proofs.Common.{◌≡◌, ℕ, ◌+◌, ◌-◌, ◌<◌, ◌≤◌, List, [], ◌∷◌, ◌++◌, length, take, drop, reverse, suc, zero, refl, sym, ap, ◌∙◌, subst, arith}
use Rattle.std.specs.Prelude.{All, Option, Some, None}
use Rattle.std.specs.Option.{option_map_or}
use Rattle.std.proofs.lemmas.List.{reverse-append, drop-drop, get_or-drop, length-drop, drop-take}
use Rattle.q_base.specs.declared.ids.ObjId.{ObjId}
use Rattle.row_versions.specs.declared.heaps.Change.{Change}
use Rattle.row_versions.specs.declared.slot.Deed.{Deed}
use Rattle.row_versions.specs.declared.slot.Deed.TheVariants.{Inserted}
use Rattle.row_versions.specs.Marks.{Mark}
use Rattle.row_versions.specs.declared.tables.Place.{Place}
use Rattle.row_versions.specs.Versions.{taken_back}
use Rattle.row_versions.specs.Stored.{Stored, slots_at, slots_of, rows_in, position_of}
use Rattle.row_versions.specs.Sound.{IsLog, IsSound, was_live, lives_on}
use Rattle.row_versions.proofs.Rows.{same_rows}
use Rattle.row_versions.proofs.Logs.{undone_sum, undone_position, undone_rows}
use Rattle.row_versions.proofs.Live.{one_if}
use Rattle.row_versions.proofs.Sounds.{sound_back, live_before}
use Rattle.row_versions.proofs.TableLemmas.{in_place_length, tables_kept}
use Rattle.row_versions.specs.State.{State, KeepsRows, KeepsPinned, KeepsMark, KeepsTables, Stands, before, undone, at_mark, back, last_undone, state_before}

-- the last change of the log, its first in the model
pub reverse-last : (log rest : List Change) (change : Change) → log ≡ rest ++ change ∷ [] → reverse log ≡ change ∷ reverse rest
reverse-last log rest change e = ap reverse e ∙ reverse-append rest (change ∷ [])

pub last_of : (state : State) (change : Change) (rest : List Change) (tables : List Stored) → state.log ≡ change ∷ rest → tables ≡ before change state.tables → record state { tables = tables; log = rest } ≡ last_undone state
last_of state change rest tables log_is tables_is =
    ap (λ (t : List Stored). record state { tables = t; log = rest }) tables_is ∙ sym (ap (state_before state) log_is)

step_back : (tables : List Stored) (state : State) (log : List Change) → state_before (record state { tables = tables; log = log }) log ≡ record state { tables = undone 1 tables log; log = drop 1 log }
step_back tables state [] = refl
step_back tables state (change ∷ rest) = refl

-- one change further back
pub back_more : (count : ℕ) (state : State) → last_undone (back count state) ≡ back (count + 1) state
back_more count state =
    step_back (undone count state.tables state.log) state (drop count state.log)
    ∙ ap (λ (t : List Stored). record state { tables = t; log = drop 1 (drop count state.log) }) (sym (undone_sum count 1 state.tables state.log))
    ∙ ap (λ (log : List Change). record state { tables = undone (count + 1) state.tables state.log; log = log }) (drop-drop 1 count state.log)

undone_length : (k : ℕ) (tables : List Stored) (log : List Change) (t : ℕ) → length (slots_at t (undone k tables log)) ≡ length (slots_at t tables)
undone_length zero tables log t = refl
undone_length (suc k) tables [] t = refl
undone_length (suc k) tables (change ∷ log) t = undone_length k (before change tables) log t ∙ in_place_length (taken_back change.deed) tables change.place t

-- a slot that was given stays given
pub back_slots : (count : ℕ) (state : State) (table : ObjId) → length (slots_of table (back count state).tables) ≡ length (slots_of table state.tables)
back_slots count state table =
    ap (λ o. length (option_map_or (λ t. slots_at t (undone count state.tables state.log)) o [])) (undone_position count state.tables state.log table.0) ∙ go (position_of table.0 state.tables)
  where
    go : (o : Option ℕ) → length (option_map_or (λ t. slots_at t (undone count state.tables state.log)) o []) ≡ length (option_map_or (λ t. slots_at t state.tables) o [])
    go None = refl
    go (Some t) = undone_length count state.tables state.log t

pub back_tables : (count : ℕ) (state : State) → KeepsTables 0 state (back count state)
back_tables count state =
    tables_kept 0 state (back count state) (λ id. undone_position count state.tables state.log id)
    (λ t. omega (arith, undone_length count state.tables state.log t))

pub back_older : (state : State) (mark : Mark) (snap : ℕ) → IsLog state.newest state.tables state.log → Stands state mark → snap < mark.moment → KeepsRows state (at_mark state mark) snap
back_older state mark snap logged stands lt = λ table.
    let count = length state.log - mark.changes in
    same_rows state.tables (undone count state.tables state.log) table snap snap (undone_position count state.tables state.log table.0) (undone_rows count state.newest mark.moment snap state.tables state.log logged stands.later lt)

pub back_pinned : (state : State) (mark : Mark) → IsLog state.newest state.tables state.log → Stands state mark → All (λ pin. pin < mark.moment) state.pins → KeepsPinned state (at_mark state mark)
back_pinned state mark logged stands pins = λ snap pin. back_older state mark snap logged stands (subst (λ k. k < mark.moment) pin.2 (pins pin.0 snap pin.1))

All-drop : {A : Type 0} (P : A → Type 0) (n : ℕ) (xs : List A) → All P xs → All P (drop n xs)
All-drop P n xs h = λ k d lt. subst P (sym (get_or-drop n xs k d)) (h (n + k) d (omega (arith, length-drop n xs)))

pub back_marks : (state : State) (mark earlier : Mark) → mark.changes ≤ length state.log → earlier.changes ≤ mark.changes → Stands state earlier → KeepsMark state (at_mark state mark) earlier
back_marks state mark earlier within le stands =
    let count = length state.log - mark.changes in
    let more = length (drop count state.log) - earlier.changes in
    let all : count + more ≡ length state.log - earlier.changes = omega (arith, length-drop count state.log) in
    record {
      stands = record {
        within = omega (arith, length-drop count state.log);
        made = stands.made;
        later =
            subst (λ (l : List Change). All (λ (c : Change). earlier.moment ≤ c.moment) l) (drop-take count more state.log)
            (All-drop (λ (c : Change). earlier.moment ≤ c.moment) count (take (count + more) state.log) (subst (λ k. All (λ (c : Change). earlier.moment ≤ c.moment) (take k state.log)) (sym all) stands.later));
      };
      names = λ table. ap (λ (t : List Stored). rows_in 0 (slots_of table t) state.newest) (sym (undone_sum count more state.tables state.log) ∙ ap (λ k. undone k state.tables state.log) all);
    }

pub sound_of_log : (log rest : List Change) (change : Change) (tables : List Stored) (newest live : ℕ) (pins : List ℕ) (stale : List Place) → IsSound tables newest live pins (reverse log) stale → log ≡ rest ++ change ∷ [] → IsSound tables newest live pins (change ∷ reverse rest) stale
sound_of_log log rest change tables newest live pins stale sound e = subst (λ (l : List Change). IsSound tables newest live pins l stale) (reverse-last log rest change e) sound

pub sound_last : (deed : Deed) (change : Change) (tables put : List Stored) (newest live less : ℕ) (pins : List ℕ) (rest : List Change) (stale : List Place) → IsSound tables newest live pins (change ∷ rest) stale → put ≡ before change tables → change.deed ≡ deed → less + one_if (lives_on deed) ≡ live + one_if (was_live deed) → IsSound put newest less pins rest stale
sound_last deed change tables put newest live less pins rest stale sound is deed_is count =
    subst (λ (t : List Stored). IsSound t newest less pins rest stale) (sym is)
    (sound_back change tables newest live less pins rest stale sound (subst (λ (d : Deed). less + one_if (lives_on d) ≡ live + one_if (was_live d)) (sym deed_is) count))

pub live_last : (change : Change) (tables : List Stored) (newest live : ℕ) (pins : List ℕ) (rest : List Change) (stale : List Place) → IsSound tables newest live pins (change ∷ rest) stale → change.deed ≡ Inserted → 1 ≤ live
live_last change tables newest live pins rest stale sound is =
    omega (arith, live_before change tables sound.logged.1, sound.counted, ap (λ (d : Deed). one_if (lives_on d)) is, ap (λ (d : Deed). one_if (was_live d)) is)
