use Rattle.std.specs.Prelude.{ℕ, Bool, true, false, nat_lt, nat_le, ◌&&◌, if◌then◌else◌, Option, None, Some, List, [], ◌∷◌, drop, filter, is_none}
use Rattle.std.specs.List.{list_any}
use Rattle.q_value.specs.declared.value.Value.{Value}
use Rattle.row_versions.specs.declared.slot.Version.{Version}
use Rattle.row_versions.specs.declared.slot.Deed.{Deed}
use Rattle.row_versions.specs.declared.slot.Deed.TheVariants.{Inserted, Superseded, Ended}

-- a version without an end is open at every moment, another up to its end
abbrev pub is_open : Option ℕ → ℕ → Bool
is_open None moment = true
is_open (Some until) moment = nat_lt moment until

-- the snapshot of a moment shows a version that was made by then and had not ended
abbrev pub is_shown : Version → ℕ → Bool
is_shown version moment = nat_le version.from moment && is_open version.until moment

-- the row that a slot shows, its versions given from the newest to the oldest
abbrev pub shown_in : List Version → ℕ → Option (List Value)
shown_in [] moment = None
shown_in (version ∷ versions) moment = if is_shown version moment then Some version.row else shown_in versions moment

-- the versions with one of a row before them
abbrev pub with_version : List Value → ℕ → List Version → List Version
with_version row moment versions = record { row = row; from = moment; until = None } ∷ versions

-- the versions with another end of the newest
abbrev pub with_end : Option ℕ → List Version → List Version
with_end until [] = []
with_end until (version ∷ versions) = record version { until = until } ∷ versions

-- a newer version of the row
abbrev pub superseded : List Value → ℕ → List Version → List Version
superseded row moment versions = with_version row moment (with_end (Some moment) versions)

-- the row deleted
abbrev pub ended : ℕ → List Version → List Version
ended moment versions = with_end (Some moment) versions

-- the versions before a change
abbrev pub taken_back : Deed → List Version → List Version
taken_back Inserted versions = drop 1 versions
taken_back Superseded versions = with_end None (drop 1 versions)
taken_back Ended versions = with_end None versions

-- one of the snapshots shows the version
abbrev pub is_needed : List ℕ → Version → Bool
is_needed snaps version = list_any (is_shown version) snaps

-- the versions that one of the snapshots shows
abbrev pub kept : List ℕ → List Version → List Version
kept snaps versions = filter (is_needed snaps) versions

-- there is no version but a live one
abbrev pub is_settled : List Version → Bool
is_settled [] = true
is_settled (version ∷ []) = is_none version.until
is_settled (version ∷ next ∷ versions) = false
