use Rattle.std.specs.Prelude.{ℕ, ◌+◌, ◌==◌, if◌then◌else◌, Bool, false, Option, None, Some, List, [], ◌∷◌, ◌++◌, slice_index_or, suc, zero, is_some, is_none, count_by, sum_by, map}
use Rattle.std.specs.Option.{option_map, option_map_or}
use Rattle.q_base.specs.declared.ids.ObjId.{ObjId}
use Rattle.q_value.specs.declared.value.Value.{Value}
use Rattle.row_versions.specs.declared.slot.Version.{Version}
use Rattle.row_versions.specs.declared.tables.Place.{Place}
use Rattle.row_versions.specs.Versions.{shown_in, kept}

-- a table: the versions of each slot that was given, from the newest to the oldest
pub record Stored : Type 0 where
  pub id : ObjId
  pub slots : List (List Version)

-- the list with one element changed, where there is one at that place
abbrev pub changed : {A : Type 0} → ℕ → (A → A) → List A → List A
changed n f [] = []
changed zero f (x ∷ xs) = f x ∷ xs
changed (suc n) f (x ∷ xs) = x ∷ changed n f xs

-- the table with the versions of one slot changed
abbrev pub in_slot : ℕ → (List Version → List Version) → Stored → Stored
in_slot slot f table = record table { slots = changed slot f table.slots }

-- the versions of a slot, none where it was not given
abbrev pub versions_at : ℕ → Stored → List Version
versions_at slot table = slice_index_or table.slots slot []

-- the row before those of the later slots, where there is one
abbrev pub with_row : ℕ → Option (List Value) → List (ℕ × List Value) → List (ℕ × List Value)
with_row slot None rows = rows
with_row slot (Some row) rows = (slot, row) ∷ rows

-- the rows that slots show, with their numbers, of which the first is given
abbrev pub rows_in : ℕ → List (List Version) → ℕ → List (ℕ × List Value)
rows_in slot [] moment = []
rows_in slot (versions ∷ slots) moment = with_row slot (shown_in versions moment) (rows_in (slot + 1) slots moment)

-- the number of the first row
abbrev pub first_of : List (ℕ × List Value) → Option ℕ
first_of [] = None
first_of (row ∷ rows) = Some row.0

-- the place of a table
abbrev pub position_of : ℕ → List Stored → Option ℕ
position_of id [] = None
position_of id (table ∷ tables) = if table.id.0 == id then Some 0 else option_map (λ place. suc place) (position_of id tables)

-- the tables with one more, unless it is there
abbrev pub with_table : ObjId → List Stored → List Stored
with_table id tables = if is_some (position_of id.0 tables) then tables else tables ++ record { id = id; slots = [] } ∷ []

-- the tables with one more slot in one of them
abbrev pub with_slot : ℕ → List Version → List Stored → List Stored
with_slot at versions tables = changed at (λ (table : Stored). record table { slots = table.slots ++ versions ∷ [] }) tables

-- the tables with the versions of one slot changed
abbrev pub in_place : Place → (List Version → List Version) → List Stored → List Stored
in_place place f tables = changed place.table (in_slot place.slot f) tables

-- the slots of the table at a place
abbrev pub slots_at : ℕ → List Stored → List (List Version)
slots_at at [] = []
slots_at zero (table ∷ tables) = table.slots
slots_at (suc at) (table ∷ tables) = slots_at at tables

-- the slots of a table, none where it was not added
abbrev pub slots_of : ObjId → List Stored → List (List Version)
slots_of id tables = option_map_or (λ at. slots_at at tables) (position_of id.0 tables) []

-- the versions of a slot, none where it was not given
abbrev pub versions_in : Place → List Stored → List Version
versions_in place tables = slice_index_or (slots_at place.table tables) place.slot []

-- the newest version has no end
abbrev pub is_live : List Version → Bool
is_live [] = false
is_live (version ∷ versions) = is_none version.until

-- how many rows are live
abbrev pub live_of : List Stored → ℕ
live_of tables = sum_by (λ (table : Stored). count_by is_live table.slots) tables

-- each slot with the versions that one of the snapshots shows
abbrev pub pruned : List ℕ → List Stored → List Stored
pruned snaps tables = map (λ (table : Stored). record table { slots = map (kept snaps) table.slots }) tables
