-- What INSERT, UPDATE and DELETE make of the rows of their table.
use Rattle.std.specs.Prelude.{ℕ, nat_lt, Bool, true, false, not, ◌&&◌, ◌||◌, List, [], ◌∷◌, ◌++◌, length, map, filter, slice_set, Result, Ok, Err, if◌then◌else◌}
use Rattle.std.specs.List.{list_all, list_any}
use Rattle.q_base.specs.declared.code.Code.{Code}
use Rattle.q_base.specs.declared.code.Code.TheVariants.{NullInColumn, DuplicateKey, LimitExceeded}
use Rattle.q_base.specs.declared.errors.SqlError.{SqlError}
use Rattle.q_value.specs.declared.value.Value.{Value}
use Rattle.q_value.specs.Conversions.{converted}
use Rattle.query_tree.specs.declared.statement.AssignedColumn.{AssignedColumn}
use Rattle.query_tree.specs.declared.statement.Assignment.{Assignment}
use Rattle.query_tree.specs.declared.statement.Delete.{Delete}
use Rattle.query_tree.specs.declared.statement.Insert.{Insert}
use Rattle.query_tree.specs.declared.statement.Update.{Update}
use Rattle.query_tree.specs.declared.target.Target.{Target}
use Rattle.query_tree.specs.Evaluation.{is_null, value_at, value_of, truth_of}
use Rattle.query_meaning.specs.Rows.{Row, fitted, is_true, alike, plain_values}

-- a column that takes no null: its place in a row and its name
pub record Needed : Type 0 where
  pub place : ℕ
  pub name : List ℕ

-- a unique index: its name and the places of its columns
pub record Unique : Type 0 where
  pub name : List ℕ
  pub places : List ℕ

-- a table's rows, with what new ones have to keep
pub record Table : Type 0 where
  pub rows : List Row
  -- the length of a row, columns that were dropped among them
  pub columns : ℕ
  -- in the order of the columns
  pub needed : List Needed
  -- in the order of making
  pub uniques : List Unique
  -- how many rows more there may be
  pub room : ℕ

-- the table's rows after a change, how many it touched, and what RETURNING gives of them
pub record Changed : Type 0 where
  pub rows : List Row
  pub count : ℕ
  pub returned : List Row

abbrev pub and_then : {A B : Type 0} → Result A SqlError → (A → Result B SqlError) → Result B SqlError
and_then (Err e) next = Err e
and_then (Ok found) next = next found

abbrev pub or_refusal : Result Value Code → Result Value SqlError
or_refusal (Ok found) = Ok found
or_refusal (Err code) = Err (record { code = code; args = [] })

-- ---- one row

-- what each gives, from left to right; the first refusal stands
abbrev pub each : {A B : Type 0} → (A → Result B SqlError) → List A → Result (List B) SqlError
each f [] = Ok []
each f (x ∷ xs) = and_then (f x) (λ found. and_then (each f xs) (λ others. Ok (found ∷ others)))

-- each value converted to the type of its column
abbrev pub all_converted : List AssignedColumn → List Value → Result (List Value) SqlError
all_converted [] values = Ok []
all_converted (column ∷ columns) [] = Ok []
all_converted (column ∷ columns) (v ∷ values) = and_then (converted column.kind v) (λ found. and_then (all_converted columns values) (λ others. Ok (found ∷ others)))

-- a row in which columns have new values
abbrev pub with_values : List AssignedColumn → List Value → Row → Row
with_values [] values row = row
with_values (column ∷ columns) [] row = row
with_values (column ∷ columns) (v ∷ values) row = with_values columns values (slice_set row column.id.0 v)

-- the first column in which a null may not stand
abbrev pub without_nulls : List ℕ → List Needed → Row → Result Row SqlError
without_nulls written [] row = Ok row
without_nulls written (column ∷ needed) row = if is_null (value_at row column.place)
    then Err (record { code = NullInColumn; args = column.name ∷ written ∷ [] })
    else without_nulls written needed row

-- a row in which columns are given targets: all are evaluated over the old row, then all converted, then no null may stand where
-- none is taken
abbrev pub assigned : List ℕ → Table → List AssignedColumn → List Target → Row → Row → Row → Result Row SqlError
assigned written table columns targets params old row =
    and_then (each (λ target. or_refusal (value_of target old params)) targets) (λ values.
    and_then (all_converted columns values) (λ all. without_nulls written table.needed (with_values columns all row)))

-- ---- unique indexes

-- two rows have one key: no null is equal to another
abbrev pub same_key : List ℕ → Row → Row → Bool
same_key places one other = list_all (λ place. not (is_null (value_at one place)) && alike (value_at one place) (value_at other place)) places

abbrev pub has_twice : List ℕ → List Row → Bool
has_twice places [] = false
has_twice places (row ∷ rows) = list_any (same_key places row) rows || has_twice places rows

-- the first index that has a key twice
abbrev pub without_doubles : List Unique → List Row → Result (List Row) SqlError
without_doubles [] rows = Ok rows
without_doubles (index ∷ uniques) rows = if has_twice index.places rows
    then Err (record { code = DuplicateKey; args = index.name ∷ [] })
    else without_doubles uniques rows

-- ---- the statements

abbrev pub changed_to : List Target → Row → List Row → List Row → Changed
changed_to returning params rows touched = record { rows = rows; count = length touched; returned = map (plain_values returning params) touched }

-- INSERT: a row for each tuple, columns that have no value at their default, then all rows together
abbrev pub inserted_row : Insert → Table → Row → List Target → Result Row SqlError
inserted_row insert table params tuple =
    assigned insert.written table (insert.columns ++ map (λ (a : Assignment). a.column) insert.defaults) (tuple ++ map (λ (a : Assignment). a.value) insert.defaults) params [] (fitted table.columns [])

abbrev pub within_room : Table → List Row → Result (List Row) SqlError
within_room table made = if nat_lt table.room (length made) then Err (record { code = LimitExceeded; args = [] }) else Ok made

abbrev pub insert_change : Insert → Table → Row → Result Changed SqlError
insert_change insert table params =
    and_then (each (inserted_row insert table params) insert.rows) (λ found.
    and_then (within_room table found) (λ made.
    and_then (without_doubles table.uniques (table.rows ++ made)) (λ rows. Ok (changed_to insert.returning params rows made))))

-- the conditions are true on a row; they can't fault
abbrev pub is_hit : List Target → Row → Row → Bool
is_hit conds params row = list_all (λ cond. is_true (truth_of cond row params)) conds

-- UPDATE: each row that is hit gets its new values in its place, over the rows as they were
abbrev pub updated_row : Update → Table → Row → Row → Result Row SqlError
updated_row update table params row = assigned update.written table (map (λ (a : Assignment). a.column) update.assignments) (map (λ (a : Assignment). a.value) update.assignments) params row (fitted table.columns row)

abbrev pub or_updated : Update → Table → Row → Row → Result (Bool × Row) SqlError
or_updated update table params row = if is_hit update.conds params row then and_then (updated_row update table params row) (λ new. Ok (true, new)) else Ok (false, row)

abbrev pub update_change : Update → Table → Row → Result Changed SqlError
update_change update table params =
    and_then (each (or_updated update table params) table.rows) (λ found.
    and_then (without_doubles table.uniques (map (λ (one : Bool × Row). one.1) found)) (λ rows.
    Ok (changed_to update.returning params rows (map (λ (one : Bool × Row). one.1) (filter (λ (one : Bool × Row). one.0) found)))))

-- DELETE: the rows that are hit go
abbrev pub delete_change : Delete → Table → Row → Changed
delete_change delete table params = changed_to delete.returning params (filter (λ row. not (is_hit delete.conds params row)) table.rows) (filter (is_hit delete.conds params) table.rows)
