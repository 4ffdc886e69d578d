use Rattle.std.proofs.Common.{◌≡◌, ◌≤◌, ◌∷◌, true, length, take}
use Rattle.std.specs.Prelude.{Contains, ◌⊎◌}
use Rattle.row_versions.specs.declared.tables.Place.{Place}
use Rattle.row_versions.specs.Versions.{kept, is_settled}
use Rattle.row_versions.specs.Stored.{versions_in, pruned}
use Rattle.row_versions.specs.Sound.{IsHistory}
use Rattle.row_versions.proofs.heaps.prune_stale.Given as goal

abbrev pub invariant-loop-left : goal.invariant-loop-left
invariant-loop-left l = record {
  within : l.left ≤ length l.stale.items;
  same : pruned (l.newest ∷ l.pins) l.tables ≡ pruned (l.newest ∷ l.pins) l.fn.tables;
  dated : (place : Place) → IsHistory l.newest (versions_in place l.tables);
  rest : (place : Place) → (kept (l.newest ∷ l.pins) (versions_in place l.tables) ≡ versions_in place l.tables) ⊎ Contains (take l.left l.stale.items) place;
  listed : (place : Place) → (is_settled (versions_in place l.tables) ≡ true) ⊎ Contains l.stale.items place;
}

abbrev pub decreases-loop-left : goal.decreases-loop-left
decreases-loop-left l = l.left
