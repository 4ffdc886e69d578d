use Rattle.std.specs.Prelude.{ℕ, ◌+◌, ◌-◌, ◌<◌, ◌≤◌, ◌≡◌, ◌==◌, not, if◌then◌else◌, Option, None, Some, List, [], ◌∷◌, ◌++◌, length, take, drop, map, filter, sum_by, suc, zero, All, Contains, slice_index_or, slice_get, reverse, IsSome}
use Rattle.std.specs.Option.{option_map}
use Rattle.q_base.specs.declared.ids.ObjId.{ObjId}
use Rattle.q_value.specs.declared.value.Value.{Value}
use Rattle.row_versions.specs.declared.heaps.Change.{Change}
use Rattle.row_versions.specs.declared.slot.Deed.TheVariants.{Inserted, Superseded, Ended}
use Rattle.row_versions.specs.Marks.{Mark}
use Rattle.row_versions.specs.declared.slot.Version.{Version}
use Rattle.row_versions.specs.declared.tables.Place.{Place}
use Rattle.row_versions.specs.Versions.{shown_in, with_version, superseded, ended, taken_back}
use Rattle.row_versions.specs.Stored.{Stored, slots_of, rows_in, with_slot, in_place, position_of}

-- what the heaps hold: the tables in the order in which they were added, the number of the newest
-- snapshot, the snapshots that are pinned, and the changes that can be taken back, the last first
pub record State : Type 0 where
  pub tables : List Stored
  pub newest : ℕ
  pub pins : List ℕ
  pub log : List Change

-- the row that a slot shows at a snapshot
abbrev pub shown : State → ObjId → ℕ → ℕ → Option (List Value)
shown state table slot snap = shown_in (slice_index_or (slots_of table state.tables) slot []) snap

-- the row that a list of rows has for a slot
abbrev pub row_of : ℕ → List (ℕ × List Value) → Option (List Value)
row_of slot [] = None
row_of slot (row ∷ rows) = if row.0 == slot then Some row.1 else row_of slot rows

-- the row of a version that a slot keeps, counted from 0 at the oldest
abbrev pub kept_version : State → ObjId → ℕ → ℕ → Option (List Value)
kept_version state table slot at = option_map (λ (version : Version). version.row) (slice_get (reverse (slice_index_or (slots_of table state.tables) slot [])) at)

-- the rows that a table shows at a snapshot from a slot on, in the order of insertion
abbrev pub rows_from : State → ObjId → ℕ → ℕ → List (ℕ × List Value)
rows_from state table slot snap = rows_in slot (drop slot (slots_of table state.tables)) snap

-- the rows that a table shows at a snapshot, in the order of insertion
abbrev pub rows : State → ObjId → ℕ → List (ℕ × List Value)
rows state table snap = rows_in 0 (slots_of table state.tables) snap

-- each table shows at the snapshot what it showed
abbrev pub KeepsRows : State → State → ℕ → Type 0
KeepsRows old new snap = (table : ObjId) → rows new table snap ≡ rows old table snap

-- the tables before the last change
abbrev pub before : Change → List Stored → List Stored
before change tables = in_place change.place (taken_back change.deed) tables

-- the tables before some of the last changes
abbrev pub undone : ℕ → List Stored → List Change → List Stored
undone zero tables log = tables
undone (suc n) tables [] = tables
undone (suc n) tables (change ∷ log) = undone n (before change tables) log

abbrev pub state_before : State → List Change → State
state_before state [] = state
state_before state (change ∷ log) = record state { tables = before change state.tables; log = log }

-- the state before the last change
abbrev pub last_undone : State → State
last_undone state = state_before state state.log

-- how many changes were made since a mark
abbrev pub since : State → Mark → ℕ
since state mark = length state.log - mark.changes

-- no more was taken back than the mark has, and no change before its moment is to be taken back
pub record Stands (state : State) (mark : Mark) : Type 0 where
  pub within : mark.changes ≤ length state.log
  pub made : mark.moment ≤ state.newest
  pub later : All (λ change. mark.moment ≤ change.moment) (take (since state mark) state.log)

-- the state before some of the last changes
abbrev pub back : ℕ → State → State
back count state = record state { tables = undone count state.tables state.log; log = drop count state.log }

-- the state that a mark names
abbrev pub at_mark : State → Mark → State
at_mark state mark = back (since state mark) state

-- the rows that a table showed at the newest snapshot when the mark was taken
abbrev pub rows_at : State → Mark → ObjId → List (ℕ × List Value)
rows_at state mark table = rows (at_mark state mark) table state.newest

-- a mark that stands goes on standing, and names the same rows
pub record KeepsMark (old new : State) (mark : Mark) : Type 0 where
  pub stands : Stands new mark
  pub names : (table : ObjId) → rows_at new mark table ≡ rows_at old mark table

-- each pinned snapshot shows what it showed
abbrev pub KeepsPinned : State → State → Type 0
KeepsPinned old new = (snap : ℕ) → Contains old.pins snap → KeepsRows old new snap

-- each mark goes on standing
abbrev pub KeepsMarks : State → State → Type 0
KeepsMarks old new = (mark : Mark) → Stands old mark → KeepsMark old new mark

-- the table was added
abbrev pub IsAdded : State → ObjId → Type 0
IsAdded state table = IsSome (position_of table.0 state.tables)

-- each table that was added is there, with no more than so many slots more
pub record KeepsTables (more : ℕ) (old new : State) : Type 0 where
  pub added : (table : ObjId) → IsAdded old table → IsAdded new table
  pub slots : (table : ObjId) → length (slots_of table new.tables) ≤ length (slots_of table old.tables) + more

-- how many rows the tables show at the newest snapshot
abbrev pub live_rows : State → ℕ
live_rows state = sum_by (λ (table : Stored). length (rows_in 0 table.slots state.newest)) state.tables

-- the rows with another one at a slot
abbrev pub replaced : ℕ → List Value → List (ℕ × List Value) → List (ℕ × List Value)
replaced slot row rows = map (λ (old : ℕ × List Value). if old.0 == slot then (slot, row) else old) rows

-- the rows without that of a slot
abbrev pub without : ℕ → List (ℕ × List Value) → List (ℕ × List Value)
without slot rows = filter (λ (old : ℕ × List Value). not (old.0 == slot)) rows

-- the change is the newest to be taken back, and the tables are those after it
pub record Changes (change : Change) (table : ObjId) (after : List Stored) (old new : State) : Type 0 where
  pub added : position_of table.0 old.tables ≡ Some change.place.table
  pub moment : change.moment ≡ old.newest
  pub state : new ≡ record old { tables = after; log = change ∷ old.log }
  pub others : (other : ObjId) → (other.0 ≡ table.0 → ⊥) → (snap : ℕ) → rows new other snap ≡ rows old other snap
  pub older : (snap : ℕ) → snap < old.newest → KeepsRows old new snap
  pub pinned : KeepsPinned old new
  pub marks : KeepsMarks old new

-- a row was put into a new slot, after those of the table
pub record Inserts (table : ObjId) (slot : ℕ) (row : List Value) (old new : State) : Type 0 where
  pub place : Place
  pub slot_is : place.slot ≡ slot
  pub next : slot ≡ length (slots_of table old.tables)
  pub tables : KeepsTables 1 old new
  pub changes : Changes (record { place = place; deed = Inserted; moment = old.newest }) table (with_slot place.table (with_version row old.newest []) old.tables) old new
  pub shows : rows new table new.newest ≡ rows old table old.newest ++ (slot, row) ∷ []

-- the row of a slot was replaced
pub record Supersedes (table : ObjId) (slot : ℕ) (row : List Value) (old new : State) : Type 0 where
  pub place : Place
  pub slot_is : place.slot ≡ slot
  pub tables : KeepsTables 0 old new
  pub changes : Changes (record { place = place; deed = Superseded; moment = old.newest }) table (in_place place (superseded row old.newest) old.tables) old new
  pub shows : rows new table new.newest ≡ replaced slot row (rows old table old.newest)

-- the row of a slot was deleted
pub record Ends (table : ObjId) (slot : ℕ) (old new : State) : Type 0 where
  pub place : Place
  pub slot_is : place.slot ≡ slot
  pub tables : KeepsTables 0 old new
  pub changes : Changes (record { place = place; deed = Ended; moment = old.newest }) table (in_place place (ended old.newest) old.tables) old new
  pub shows : rows new table new.newest ≡ without slot (rows old table old.newest)

-- the pins without one of a snapshot
abbrev pub unpinned : ℕ → List ℕ → List ℕ
unpinned snap [] = []
unpinned snap (pin ∷ pins) = if pin == snap then pins else pin ∷ unpinned snap pins

-- no slot from there on shows a row
pub record IsLastRow (state : State) (table : ObjId) (from snap : ℕ) : Type 0 where
  pub none : (slot : ℕ) → from ≤ slot → shown state table slot snap ≡ None
  pub rest : rows_from state table from snap ≡ []

-- the slot is the least from there on that shows a row
pub record IsNextRow (state : State) (table : ObjId) (from snap slot : ℕ) : Type 0 where
  pub within : from ≤ slot
  pub row : List Value
  pub shows : shown state table slot snap ≡ Some row
  pub between : (earlier : ℕ) → from ≤ earlier → earlier < slot → shown state table earlier snap ≡ None
  pub rest : rows_from state table from snap ≡ (slot, row) ∷ rows_from state table (slot + 1) snap
