-- The columns of views.
use Rattle.std.specs.Prelude.{ℕ, ◌+◌, ◌==◌, nat_lt, Bool, true, false, ◌&&◌, Option, None, Some, Result, Ok, Err, List, [], ◌∷◌, length, if◌then◌else◌}
use Rattle.std.specs.List.{slice_get}
use Rattle.std.specs.Str.{bytes_eq}
use Rattle.q_base.specs.declared.code.Code.TheVariants.{SyntaxError}
use Rattle.q_base.specs.declared.errors.SqlError.{SqlError}
use Rattle.q_base.specs.declared.ids.ObjId.{ObjId}
use Rattle.q_base.specs.declared.ids.SchemaId.{SchemaId}
use Rattle.q_value.specs.declared.value.SqlType.{SqlType}
use denote.Enum.Bare.{sameb}
use Rattle.q_value.specs.contracts.value.SqlType as sql_type
use Rattle.query_tree.specs.declared.result.ResultColumn.{ResultColumn}
use Rattle.query_tree.specs.declared.result.ResultType.{ResultType}
use Rattle.cat_core.specs.declared.entry.Def.{Def}
use Rattle.cat_commands.specs.Names.{Text, unrepeated, go_on, plain}
use Rattle.cat_commands.specs.Steps.{Step, put_touched}

abbrev pub columns_from : Option (List ResultColumn) → List ResultColumn
columns_from (Some columns) = columns
columns_from None = []

abbrev pub columns_of : ResultType → List ResultColumn
columns_of shape = columns_from shape.columns

abbrev pub column_name : ResultColumn → Option Text → Text
column_name column (Some written) = written
column_name column None = column.name

-- the names that are written, and behind them those of the other columns
abbrev pub names_from : List Text → ℕ → List ResultColumn → List Text
names_from written place [] = []
names_from written place (column ∷ columns) = column_name column (slice_get written place) ∷ names_from written (place + 1) columns

abbrev pub with_names : List ResultColumn → List Text → List ResultColumn
with_names [] names = []
with_names (column ∷ columns) [] = []
with_names (column ∷ columns) (name ∷ names) = record { name = name; kind = column.kind } ∷ with_names columns names

-- the columns of a view: 42601 with more names than columns, 42701 where one stands twice
unfoldable pub checked_columns : List ResultColumn → List Text → Result (List ResultColumn) SqlError
checked_columns columns names = if nat_lt (length columns) (length names) then Err (plain SyntaxError) else go_on (unrepeated (names_from names 0 columns)) (λ _. Ok (with_names columns (names_from names 0 columns)))

abbrev pub same_kind : SqlType → SqlType → Bool
same_kind = sameb sql_type.the_type

abbrev pub is_same : ResultColumn → Option ResultColumn → Bool
is_same old None = false
is_same old (Some new) = bytes_eq old.name new.name && same_kind old.kind new.kind

-- the old columns are the first of the new ones
abbrev pub keeps_from : List ResultColumn → ℕ → List ResultColumn → Bool
keeps_from new place [] = true
keeps_from new place (column ∷ columns) = if is_same column (slice_get new place) then keeps_from new (place + 1) columns else false

abbrev pub is_among : ObjId → List ObjId → Bool
is_among id [] = false
is_among id (other ∷ others) = if other.0 == id.0 then true else is_among id others

-- a replaced view is touched
abbrev pub put_view : ObjId → SchemaId → Text → Def → Bool → List Step
put_view id schema name def replaced = if replaced then put_touched id schema name def else Rattle.cat_commands.specs.Steps.put id schema name def ∷ []
