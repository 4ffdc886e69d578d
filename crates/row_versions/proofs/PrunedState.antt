use Rattle.std.proofs.Common.{◌≡◌, ℕ, ◌-◌, List, [], ◌∷◌, true, length, refl, sym, ap, ◌∙◌, subst, arith}
use Rattle.std.specs.Prelude.{Contains, ◌⊎◌}
use Rattle.row_versions.specs.declared.heaps.Change.{Change}
use Rattle.row_versions.specs.declared.tables.Place.{Place}
use Rattle.row_versions.specs.Versions.{is_settled, kept}
use Rattle.row_versions.specs.Stored.{Stored, slots_at, slots_of, versions_in, rows_in, live_of, pruned}
use Rattle.row_versions.specs.Sound.{IsHistory, IsLog, IsSound}
use Rattle.row_versions.specs.State.{State, KeepsRows, KeepsMarks, KeepsTables, undone}
use Rattle.row_versions.proofs.Pruned.{live_of-pruned, rows_pruned, position_of-pruned, slots_at-pruned}
use Rattle.row_versions.proofs.TableLemmas.{tables_kept}
use Rattle.std.proofs.lemmas.List.{length-map}

pub sound_pruned : (tables after : List Stored) (newest live : ℕ) (pins : List ℕ) (log : List Change) (stale less : List Place) → IsSound tables newest live pins log stale → log ≡ [] → after ≡ pruned (newest ∷ pins) tables
    → ((place : Place) → IsHistory newest (versions_in place after)) → ((place : Place) → (is_settled (versions_in place after) ≡ true) ⊎ Contains less place) → IsSound after newest live pins log less
sound_pruned tables after newest live pins log stale less h none is dated listed = record {
  dated = dated;
  counted = h.counted ∙ sym (live_of-pruned newest pins tables (λ t s. h.dated (record { table = t; slot = s }))) ∙ ap live_of (sym is);
  limited = h.limited;
  logged = subst (λ (l : List Change). IsLog newest after l) (sym none) tt;
  pinned = h.pinned;
  listed = listed;
}

pub pruned_shows : (state : State) (snap : ℕ) → Contains (state.newest ∷ state.pins) snap → KeepsRows state (record state { tables = pruned (state.newest ∷ state.pins) state.tables }) snap
pruned_shows state snap h = λ table. rows_pruned (state.newest ∷ state.pins) state.tables table snap h

pub pruned_marks : (state : State) → state.log ≡ [] → KeepsMarks state (record state { tables = pruned (state.newest ∷ state.pins) state.tables })
pruned_marks state none = λ mark stands.
    let snaps = state.newest ∷ state.pins in
    let zero_is : length state.log - mark.changes ≡ 0 = omega (arith, ap length none) in
    record {
      stands = record { within = stands.within; made = stands.made; later = stands.later };
      names = λ table.
          ap (λ n. rows_in 0 (slots_of table (undone n (pruned snaps state.tables) state.log)) state.newest) zero_is
          ∙ rows_pruned snaps state.tables table state.newest (0, omega arith, refl)
          ∙ sym (ap (λ n. rows_in 0 (slots_of table (undone n state.tables state.log)) state.newest) zero_is);
    }

pub pruned_kept : (state : State) → KeepsTables 0 state (record state { tables = pruned (state.newest ∷ state.pins) state.tables })
pruned_kept state =
    let snaps = state.newest ∷ state.pins in
    tables_kept 0 state (record state { tables = pruned snaps state.tables }) (λ id. position_of-pruned snaps state.tables id)
    (λ t. omega (arith, ap length (slots_at-pruned snaps state.tables t), length-map (slots_at t state.tables) (kept snaps)))
