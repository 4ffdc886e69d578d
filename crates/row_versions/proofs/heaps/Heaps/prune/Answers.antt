use Rattle.std.proofs.Common.{◌≡◌, ◌∷◌, [], List, ℕ, reverse, sym, ap, ◌∙◌, subst}
use Rattle.std.specs.Prelude.{Contains}
use Rattle.row_versions.specs.Stored.{Stored, pruned}
use Rattle.row_versions.specs.State.{State, KeepsRows, KeepsMarks, KeepsTables}
use Rattle.row_versions.proofs.PrunedState.{sound_pruned, pruned_shows, pruned_marks, pruned_kept}
use Rattle.row_versions.proofs.heaps.Heaps.prune.Goals as goal

pub invariant_of-self : goal.invariant_of-self
invariant_of-self c =
    let i = c.self.inside in
    let none : reverse i.log.items ≡ [] = ap (λ (s : State). s.log) c.self.view_is ∙ c.requires in
    let is : c.prune_stale.new.tables ≡ pruned (i.moment ∷ i.pins.items) i.tables = c.prune_stale.ensures.pruned ∙ ap (λ (pins : List ℕ). pruned (i.moment ∷ pins) i.tables) c.as_slice.ensures.value in
    sound_pruned i.tables c.prune_stale.new.tables i.moment i.live i.pins.items (reverse i.log.items) i.stale.items c.prune_stale.new.stale.items c.self.invariant none is c.prune_stale.ensures.dated c.prune_stale.ensures.listed

pub returns-clause-shows : goal.returns-clause-shows
returns-clause-shows c =
    let i = c.self.inside in
    let state : State = record { tables = i.tables; newest = i.moment; pins = i.pins.items; log = reverse i.log.items } in
    let new : State = record state { tables = c.prune_stale.new.tables } in
    let is : c.prune_stale.new.tables ≡ pruned (i.moment ∷ i.pins.items) i.tables = c.prune_stale.ensures.pruned ∙ ap (λ (pins : List ℕ). pruned (i.moment ∷ pins) i.tables) c.as_slice.ensures.value in
    subst (λ (old : State). (snap : ℕ) → Contains (old.newest ∷ old.pins) snap → KeepsRows old new snap) c.self.view_is
    (λ snap h. subst (λ (ts : List Stored). KeepsRows state (record state { tables = ts }) snap) (sym is) (pruned_shows state snap h))

pub returns-clause-marks : goal.returns-clause-marks
returns-clause-marks c =
    let i = c.self.inside in
    let state : State = record { tables = i.tables; newest = i.moment; pins = i.pins.items; log = reverse i.log.items } in
    let new : State = record state { tables = c.prune_stale.new.tables } in
    let none : reverse i.log.items ≡ [] = ap (λ (s : State). s.log) c.self.view_is ∙ c.requires in
    let is : c.prune_stale.new.tables ≡ pruned (i.moment ∷ i.pins.items) i.tables = c.prune_stale.ensures.pruned ∙ ap (λ (pins : List ℕ). pruned (i.moment ∷ pins) i.tables) c.as_slice.ensures.value in
    subst (λ (old : State). KeepsMarks old new) c.self.view_is
    (subst (λ (ts : List Stored). KeepsMarks state (record state { tables = ts })) (sym is) (pruned_marks state none))

pub returns-clause-tables : goal.returns-clause-tables
returns-clause-tables c =
    let i = c.self.inside in
    let state : State = record { tables = i.tables; newest = i.moment; pins = i.pins.items; log = reverse i.log.items } in
    let new : State = record state { tables = c.prune_stale.new.tables } in
    let is : c.prune_stale.new.tables ≡ pruned (i.moment ∷ i.pins.items) i.tables = c.prune_stale.ensures.pruned ∙ ap (λ (pins : List ℕ). pruned (i.moment ∷ pins) i.tables) c.as_slice.ensures.value in
    subst (λ (old : State). KeepsTables 0 old new) c.self.view_is
    (subst (λ (ts : List Stored). KeepsTables 0 state (record state { tables = ts })) (sym is) (pruned_kept state))
