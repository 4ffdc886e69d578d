-- What INSERT, UPDATE and DELETE leave of the stored rows.
use Rattle.std.specs.Prelude.{◌≡◌, ℕ, ◌<◌, ◌++◌, Option, None, Some, Result, Ok, Err, List, [], ◌∷◌, length}
use Rattle.q_base.specs.declared.code.Code.TheVariants.{LimitExceeded}
use Rattle.q_base.specs.declared.errors.SqlError.{SqlError}
use Rattle.q_base.specs.declared.errors.Stop.{Stop}
use Rattle.q_base.specs.declared.errors.Stop.TheVariants.{Sql, NoMemory}
use Rattle.q_base.specs.declared.ids.ObjId.{ObjId}
use Rattle.q_base.specs.declared.ids.SlotId.{SlotId}
use Rattle.q_value.specs.Conversions.{plain}
use Rattle.query_tree.specs.declared.statement.Bound.{Bound}
use Rattle.query_tree.specs.declared.statement.Bound.TheVariants as bound
use Rattle.query_tree.specs.declared.statement.Insert.{Insert}
use Rattle.query_tree.specs.declared.statement.Update.{Update}
use Rattle.query_tree.specs.declared.statement.Delete.{Delete}
use Rattle.cat_core.specs.declared.entry.TableDef.{TableDef}
use Rattle.cat_core.specs.declared.slots.Slot.{Slot}
use Rattle.row_versions.specs.State.{State, rows, replaced, without, IsAdded, KeepsRows, KeepsPinned, KeepsMarks}
use Rattle.dml.specs.declared.changed.Changed.{Changed}
use Rattle.dml.specs.Rows.{Row, table_in, inserted_rows, updated_rows, returned, nothing}

-- the rows of a table with the numbers of their slots
abbrev pub Stored : Type 0
Stored = List (ℕ × Row)

-- the rows that a table shows now
abbrev pub now : State → ObjId → Stored
now state table = rows state table state.newest

-- other tables show what they showed, and so do older and pinned snapshots; each mark stands and names the same rows
pub record ChangesTable (table : ObjId) (old new : State) : Type 0 where
  pub newest : new.newest ≡ old.newest
  pub pins : new.pins ≡ old.pins
  pub added : (other : ObjId) → IsAdded old other → IsAdded new other
  pub others : (other : ObjId) → (other.0 ≡ table.0 → ⊥) → (snap : ℕ) → rows new other snap ≡ rows old other snap
  pub older : (snap : ℕ) → snap < old.newest → KeepsRows old new snap
  pub pinned : KeepsPinned old new
  pub marks : KeepsMarks old new

-- only the rows that one table shows now were changed, to these
pub record Shows (table : ObjId) (stored : Stored) (old new : State) : Type 0 where
  pub only : ChangesTable table old new
  pub shows : now new table ≡ stored

-- the rows without those of slots
abbrev pub without_all : List SlotId → Stored → Stored
without_all [] stored = stored
without_all (slot ∷ slots) stored = without_all slots (without slot.0 stored)

-- the rows with new ones at slots, the first at the first
abbrev pub replaced_each : List Row → List SlotId → Stored → Stored
replaced_each [] slots stored = stored
replaced_each (row ∷ more) [] stored = stored
replaced_each (row ∷ more) (slot ∷ slots) stored = replaced_each more slots (replaced slot.0 row stored)

abbrev pub numbered : List SlotId → List Row → Stored
numbered [] rows = []
numbered (slot ∷ slots) [] = []
numbered (slot ∷ slots) (row ∷ rows) = (slot.0, row) ∷ numbered slots rows

-- the rows were put behind those of the table, each into a slot of its own
pub record Appends (table : ObjId) (slots : List SlotId) (new_rows : List Row) (old new : State) : Type 0 where
  pub each : length slots ≡ length new_rows
  pub shows : Shows table (now old table ++ numbered slots new_rows) old new

-- more rows would be live than the limit
abbrev pub full : SqlError
full = plain LimitExceeded

-- the slots were deleted, and RETURNING gave their rows as they were
pub record IsDeleted (delete : Delete) (params : Row) (slots : List SlotId) (old new : State) (changed : Changed) : Type 0 where
  pub count : changed.count ≡ length slots
  pub returning : returned old delete.table.id slots delete.returning params ≡ Ok changed.returned
  pub shows : Shows delete.table.id (without_all slots (now old delete.table.id)) old new

-- refused as RETURNING is, with all as it was
abbrev pub Deleted : Delete → Row → List SlotId → State → Result Changed Stop → State → Type 0
Deleted delete params slots old (Ok changed) new = IsDeleted delete params slots old new changed
Deleted delete params slots old (Err (Sql error)) new = (returned old delete.table.id slots delete.returning params ≡ Err error) × (new ≡ old)
Deleted delete params slots old (Err NoMemory) new = Unit {0}

-- these rows were put behind those of the table, and RETURNING gave of them what it asks for
pub record IsInserted (insert : Insert) (params : Row) (new_rows : List Row) (old new : State) (changed : Changed) : Type 0 where
  pub count : changed.count ≡ length new_rows
  pub slots : List SlotId
  pub appends : Appends insert.table.id slots new_rows old new
  pub returning : returned new insert.table.id slots insert.returning params ≡ Ok changed.returned

-- a refusal of the rows leaves all as it was, and a later one what can be taken back
abbrev pub Inserts : Insert → Row → Result (List Row) SqlError → State → Result Changed Stop → State → Type 0
Inserts insert params (Ok new_rows) old (Ok changed) new = IsInserted insert params new_rows old new changed
Inserts insert params (Err refused) old (Ok changed) new = ⊥
Inserts insert params (Ok new_rows) old (Err (Sql error)) new = ChangesTable insert.table.id old new
Inserts insert params (Err refused) old (Err (Sql error)) new = (error ≡ refused) × (new ≡ old)
Inserts insert params made old (Err NoMemory) new = Unit {0}

-- nothing is done without the table
abbrev pub Nothing : State → Result Changed Stop → State → Type 0
Nothing old result new = (result ≡ Ok nothing) × (new ≡ old)

abbrev pub Inserted : Insert → Row → Option TableDef → State → Result Changed Stop → State → Type 0
Inserted insert params None old result new = Nothing old result new
Inserted insert params (Some table) old result new = Inserts insert params (inserted_rows [] insert table params insert.rows) old result new

-- an INSERT is done, and of other statements nothing
abbrev pub InsertedBy : Bound → Row → List Slot → State → Result Changed Stop → State → Type 0
InsertedBy (bound.Insert insert) params slots old result new = Inserted insert params (table_in slots insert.table.id) old result new
InsertedBy _ params slots old result new = Nothing old result new

-- these rows were put into the slots, and RETURNING gave of them what it asks for
pub record IsUpdated (update : Update) (params : Row) (slots : List SlotId) (new_rows : List Row) (old new : State) (changed : Changed) : Type 0 where
  pub count : changed.count ≡ length slots
  pub shows : Shows update.table.id (replaced_each new_rows slots (now old update.table.id)) old new
  pub returning : returned new update.table.id slots update.returning params ≡ Ok changed.returned

abbrev pub Updates : Update → Row → List SlotId → Result (List Row) SqlError → State → Result Changed Stop → State → Type 0
Updates update params slots (Ok new_rows) old (Ok changed) new = IsUpdated update params slots new_rows old new changed
Updates update params slots (Err refused) old (Ok changed) new = ⊥
Updates update params slots (Ok new_rows) old (Err (Sql error)) new = ChangesTable update.table.id old new
Updates update params slots (Err refused) old (Err (Sql error)) new = (error ≡ refused) × (new ≡ old)
Updates update params slots made old (Err NoMemory) new = Unit {0}

abbrev pub Updated : Update → Row → Option TableDef → List SlotId → State → Result Changed Stop → State → Type 0
Updated update params None slots old result new = Nothing old result new
Updated update params (Some table) slots old result new = Updates update params slots (updated_rows [] update table params old slots) old result new
