-- The rows that INSERT and UPDATE make, or the first refusal among them.
use Rattle.std.specs.Prelude.{◌≡◌, ℕ, suc, Bool, true, false, ◌&&◌, nat_lt, if◌then◌else◌, Option, None, Some, Result, Ok, Err, List, [], ◌∷◌, ◌++◌, length, replicate, slice_get, slice_set}
use Rattle.std.specs.declared.rc.Rc.{Rc}
use Rattle.std.specs.declared.alloc.Global.{Global}
use Rattle.q_base.specs.declared.code.Code.{Code}
use Rattle.q_base.specs.declared.code.Code.TheVariants.{NullInColumn}
use Rattle.q_base.specs.declared.errors.SqlError.{SqlError}
use Rattle.q_base.specs.declared.errors.Stop.{Stop}
use Rattle.q_base.specs.declared.errors.Stop.TheVariants as stop
use Rattle.q_base.specs.declared.ids.ObjId.{ObjId}
use Rattle.q_base.specs.declared.ids.SlotId.{SlotId}
use Rattle.q_value.specs.declared.value.Value.{Value}
use Rattle.q_value.specs.declared.value.Value.TheVariants.{Null}
use Rattle.q_value.specs.Conversions.{converted, plain}
use Rattle.q_scalar.specs.declared.eval.EvalStop.{EvalStop}
use Rattle.q_scalar.specs.declared.eval.EvalStop.TheVariants as eval
use Rattle.query_tree.specs.declared.target.Target.{Target}
use Rattle.query_tree.specs.declared.statement.AssignedColumn.{AssignedColumn}
use Rattle.query_tree.specs.declared.statement.Assignment.{Assignment}
use Rattle.query_tree.specs.declared.statement.Insert.{Insert}
use Rattle.query_tree.specs.declared.statement.Update.{Update}
use Rattle.query_tree.specs.Evaluation.{value_of}
use Rattle.cat_core.specs.declared.entry.Column.{Column}
use Rattle.cat_core.specs.declared.entry.TableDef.{TableDef}
use Rattle.cat_core.specs.declared.entry.Def.{Def}
use Rattle.cat_core.specs.declared.entry.Def.TheVariants as def
use Rattle.cat_core.specs.declared.entry.Entry.{Entry}
use Rattle.cat_core.specs.declared.slots.Slot.{Slot}
use Rattle.cat_core.specs.Objects.{entry_in}
use Rattle.row_versions.specs.State.{State, shown}
use Rattle.dml.specs.declared.changed.Changed.{Changed}

abbrev pub Row : Type 0
Row = List Value

-- goes on with what was found, and else keeps the refusal
abbrev pub go_on : {A B : Type 0} → Result A SqlError → (A → Result B SqlError) → Result B SqlError
go_on (Ok found) f = f found
go_on (Err error) f = Err error

-- a change gives what is expected, or stops for want of memory
abbrev pub Leaves : {A B : Type 0} → Result A SqlError → Result B Stop → A → Type 0
Leaves expected (Ok done) new = expected ≡ Ok new
Leaves expected (Err (stop.Sql error)) new = expected ≡ Err error
Leaves expected (Err stop.NoMemory) new = Unit {0}

-- a fault of an expression refuses its statement
abbrev pub stop_of : EvalStop → Stop
stop_of (eval.Fault code) = stop.Sql (plain code)
stop_of eval.NoMemory = stop.NoMemory

abbrev pub or_plain : {A : Type 0} → Result A Code → Result A SqlError
or_plain (Ok found) = Ok found
or_plain (Err code) = Err (plain code)

-- the value of an expression over a row
abbrev pub given : Target → Row → Row → Result Value SqlError
given target row params = or_plain (value_of target row params)

-- the values of expressions behind those found, or the first refusal
abbrev pub values_from : Row → List Target → Row → Row → Result Row SqlError
values_from found [] row params = Ok found
values_from found (target ∷ targets) row params = go_on (given target row params) (λ value. values_from (found ++ value ∷ []) targets row params)

abbrev pub assigned_from : Row → List Assignment → Row → Row → Result Row SqlError
assigned_from found [] row params = Ok found
assigned_from found (assignment ∷ assignments) row params = go_on (given assignment.value row params) (λ value. assigned_from (found ++ value ∷ []) assignments row params)

-- the row with a value in a place, where it has that place
abbrev pub placed : Row → ℕ → Value → Row
placed row place value = if nat_lt place (length row) then slice_set row place value else row

-- the row with a value in a column, converted to the column's type
abbrev pub put : Row → AssignedColumn → Value → Result Row SqlError
put row column value = go_on (converted column.kind value) (λ found. Ok (placed row column.id.0 found))

abbrev pub put_given : Row → AssignedColumn → Option Value → Result Row SqlError
put_given row column None = Ok row
put_given row column (Some value) = put row column value

unfoldable pub put_at : ℕ → Row → AssignedColumn → Row → Result Row SqlError
put_at at row column values = put_given row column (slice_get values at)

-- the row with the values from a place on in the columns from there on
abbrev pub put_from : ℕ → Row → List AssignedColumn → Row → Result Row SqlError
put_from at row [] values = Ok row
put_from at row (column ∷ columns) values = go_on (put_at at row column values) (λ new. put_from (suc at) new columns values)

abbrev pub put_assigned_from : ℕ → Row → List Assignment → Row → Result Row SqlError
put_assigned_from at row [] values = Ok row
put_assigned_from at row (assignment ∷ assignments) values = go_on (put_at at row assignment.column values) (λ new. put_assigned_from (suc at) new assignments values)

-- the row with the defaults of columns, one after another
abbrev pub with_defaults : Row → List Assignment → Row → Result Row SqlError
with_defaults row [] params = Ok row
with_defaults row (assignment ∷ assignments) params =
    go_on (given assignment.value [] params) (λ value. go_on (put row assignment.column value) (λ new. with_defaults new assignments params))

-- null, or nothing
abbrev pub is_missing : Option Value → Bool
is_missing None = true
is_missing (Some Null) = true
is_missing (Some other) = false

abbrev pub is_unfilled : Column → Row → Bool
is_unfilled column row = column.not_null && is_missing (slice_get row column.id.0)

-- the first column that can't be null and has none of its values is refused, with the table as written
abbrev pub checked : List Column → Row → List ℕ → Result (Unit {0}) SqlError
checked [] row written = Ok tt
checked (column ∷ columns) row written =
    if is_unfilled column row then Err (record { code = NullInColumn; args = column.name ∷ written ∷ [] }) else checked columns row written

abbrev pub kept_if : Result (Unit {0}) SqlError → Row → Result Row SqlError
kept_if (Ok done) row = Ok row
kept_if (Err error) row = Err error

abbrev pub checked_row : List Column → List ℕ → Row → Result Row SqlError
checked_row columns written row = kept_if (checked columns row written) row

-- the row that a tuple of VALUES makes: its values, and the defaults of the other columns
abbrev pub inserted_row : Insert → TableDef → Row → List Target → Result Row SqlError
inserted_row insert table params targets =
    go_on (values_from [] targets [] params) (λ values.
    go_on (with_defaults (replicate table.next_column Null) insert.defaults params) (λ row.
    go_on (put_from 0 row insert.columns values) (checked_row table.columns insert.written)))

-- the rows of all tuples behind those found
abbrev pub inserted_rows : List Row → Insert → TableDef → Row → List (List Target) → Result (List Row) SqlError
inserted_rows found insert table params [] = Ok found
inserted_rows found insert table params (targets ∷ tuples) =
    go_on (inserted_row insert table params targets) (λ row. inserted_rows (found ++ row ∷ []) insert table params tuples)

-- what an UPDATE makes of a row: its values see the old one
abbrev pub updated_row : Update → TableDef → Row → Row → Result Row SqlError
updated_row update table params old =
    go_on (assigned_from [] update.assignments old params) (λ values.
    go_on (put_assigned_from 0 old update.assignments values) (checked_row table.columns update.written))

abbrev pub row_or_none : Option Row → Row
row_or_none None = []
row_or_none (Some row) = row

-- what it makes of the rows of slots, behind those found
abbrev pub updated_rows : List Row → Update → TableDef → Row → State → List SlotId → Result (List Row) SqlError
updated_rows found update table params heaps [] = Ok found
updated_rows found update table params heaps (slot ∷ slots) =
    go_on (updated_row update table params (row_or_none (shown heaps update.table.id slot.0 heaps.newest))) (λ row.
    updated_rows (found ++ row ∷ []) update table params heaps slots)

-- with the values of targets over a row, where there is one
abbrev pub with_values : List Row → Option Row → List Target → Row → Result (List Row) SqlError
with_values found None targets params = Ok found
with_values found (Some row) targets params = go_on (values_from [] targets row params) (λ values. Ok (found ++ values ∷ []))

-- what RETURNING gives of the rows of slots, behind those found
abbrev pub returned_from : List Row → State → ObjId → List SlotId → List Target → Row → Result (List Row) SqlError
returned_from found heaps table [] targets params = Ok found
returned_from found heaps table (slot ∷ slots) targets params =
    go_on (with_values found (shown heaps table slot.0 heaps.newest) targets params) (λ new. returned_from new heaps table slots targets params)

-- nothing where it has no targets
abbrev pub returned : State → ObjId → List SlotId → List Target → Row → Result (List Row) SqlError
returned heaps table slots [] params = Ok []
returned heaps table slots (target ∷ targets) params = returned_from [] heaps table slots (target ∷ targets) params

abbrev pub nothing : Changed
nothing = record { count = 0; returned = [] }

abbrev pub table_of : Def → Option TableDef
table_of (def.Table table) = Some table
table_of other = None

abbrev pub table_at : Option (Rc Entry Global) → Option TableDef
table_at None = None
table_at (Some entry) = table_of entry.value.def

-- the table of an id
abbrev pub table_in : List Slot → ObjId → Option TableDef
table_in slots id = table_at (entry_in slots id)
