use Rattle.std.specs.Prelude.{ℕ, ◌<◌, ◌≤◌, ◌≡◌, ◌⊎◌, Bool, true, false, List, [], ◌∷◌, All, Contains, IfSome, IsSomeAnd}
use Rattle.row_versions.specs.declared.heaps.Change.{Change}
use Rattle.row_versions.specs.declared.slot.Deed.{Deed}
use Rattle.row_versions.specs.declared.slot.Deed.TheVariants.{Inserted, Superseded, Ended}
use Rattle.row_versions.specs.declared.slot.Version.{Version}
use Rattle.row_versions.specs.declared.tables.Place.{Place}
use Rattle.row_versions.specs.Versions.{shown_in, taken_back, is_settled}
use Rattle.row_versions.specs.Stored.{Stored, versions_in, is_live, live_of}
use Rattle.row_versions.specs.State.{before}

-- a version that was made and has ended
pub record IsPast (newest : ℕ) (version : Version) : Type 0 where
  pub made : version.from ≤ newest
  pub ended : IsSomeAnd version.until (λ until. until ≤ newest)

-- all versions are past
abbrev pub ArePast : ℕ → List Version → Type 0
ArePast newest [] = Unit {0}
ArePast newest (version ∷ versions) = IsPast newest version × ArePast newest versions

-- all versions but the newest are past, and nothing is of a later moment
abbrev pub IsHistory : ℕ → List Version → Type 0
IsHistory newest [] = Unit {0}
IsHistory newest (version ∷ versions) = (version.from ≤ newest) × IfSome version.until (λ until. until ≤ newest) × ArePast newest versions

-- whether the row is live before a change
abbrev pub was_live : Deed → Bool
was_live Inserted = false
was_live Superseded = true
was_live Ended = true

-- whether the row is live after it
abbrev pub lives_on : Deed → Bool
lives_on Inserted = true
lives_on Superseded = true
lives_on Ended = false

-- the change was the last one of these versions, and no older snapshot saw it
pub record IsLast (change : Change) (versions : List Version) : Type 0 where
  pub after : is_live versions ≡ lives_on change.deed
  pub earlier : is_live (taken_back change.deed versions) ≡ was_live change.deed
  pub older : (snap : ℕ) → snap < change.moment → shown_in (taken_back change.deed versions) snap ≡ shown_in versions snap

-- the changes, the last first, lead to the tables
abbrev pub IsLog : ℕ → List Stored → List Change → Type 0
IsLog newest tables [] = Unit {0}
IsLog newest tables (change ∷ log) = (change.moment ≤ newest) × IsLast change (versions_in change.place tables) × (live_of (before change tables) ≤ 1048576) × IsLog change.moment (before change tables) log

-- what holds of the tables, and of what is kept beside them
pub record IsSound (tables : List Stored) (newest live : ℕ) (pins : List ℕ) (log : List Change) (stale : List Place) : Type 0 where
  pub dated : (place : Place) → IsHistory newest (versions_in place tables)
  pub counted : live ≡ live_of tables
  pub limited : live ≤ 1048576
  pub logged : IsLog newest tables log
  pub pinned : All (λ pin. pin < newest) pins
  pub listed : (place : Place) → (is_settled (versions_in place tables) ≡ true) ⊎ Contains stale place
