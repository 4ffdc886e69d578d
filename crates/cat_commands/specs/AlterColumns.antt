-- What ALTER TABLE changes of columns.
use Rattle.std.specs.Prelude.{◌+◌, ◌-◌, ◌^◌, ◌==◌, min, nat_le, Bool, true, false, ◌&&◌, Option, None, Some, Result, Ok, Err, List, [], ◌∷◌, ◌++◌, length, if◌then◌else◌}
use Rattle.q_base.specs.declared.code.Code.TheVariants.{ColumnExists, UnknownRelationColumn, ColumnHasDependents, LastColumn, ColumnTypeUsedByView, ColumnInPrimaryKey}
use Rattle.q_base.specs.declared.errors.SqlError.{SqlError}
use Rattle.q_base.specs.declared.ids.ColId.{ColId}
use Rattle.sql_tree.specs.declared.catalog.ColumnDef.{ColumnDef}
use Rattle.sql_tree.specs.declared.expr.Literal.{Literal}
use Rattle.sql_tree.specs.declared.names.QName.{QName}
use Rattle.cat_core.specs.declared.entry.Column.{Column}
use Rattle.cat_core.specs.declared.entry.Def.{Def}
use Rattle.cat_core.specs.declared.entry.Def.TheVariants as def
use Rattle.cat_core.specs.declared.entry.Entry.{Entry}
use Rattle.cat_core.specs.declared.entry.TableDef.{TableDef}
use Rattle.cat_core.specs.Steps.{CatalogState}
use Rattle.cat_core.specs.Finding.{column_named, indexes_of}
use Rattle.cat_commands.specs.declared.alter.RowWork.{RowWork}
use Rattle.cat_commands.specs.declared.alter.RowWork.TheVariants as rows
use Rattle.cat_commands.specs.Names.{Text, Checked, naming, naming_two, plain, or_refused, written, go_on}
use Rattle.cat_commands.specs.Limits.{within}
use Rattle.cat_commands.specs.Types.{column_type, is_assignable}
use Rattle.cat_commands.specs.Defaults.{default_written, mismatch}
use Rattle.cat_commands.specs.Columns.{default_or_null, columns_with, columns_without, with_name, with_default, with_not_null, of_type}
use Rattle.cat_commands.specs.Stats.{stats_with_new, stats_without}
use Rattle.cat_commands.specs.Elements.{column_of}
use Rattle.cat_commands.specs.Steps.{Step, put, Drops, Touches}
use Rattle.cat_commands.specs.Alterations.{Alteration, Altering, put_table}

-- the table's column of the name, else 42703
abbrev pub known_column : TableDef → QName → Text → Result Column SqlError
known_column table shown name = or_refused (naming_two UnknownRelationColumn name (written shown)) (column_named table.columns name)

abbrev pub unnamed_if : Option Column → QName → Text → Checked
unnamed_if (Some column) shown name = Err (naming_two ColumnExists name (written shown))
unnamed_if None shown name = Ok tt

-- the table has no column of the name, else 42701
abbrev pub unnamed : TableDef → QName → Text → Checked
unnamed table shown name = unnamed_if (column_named table.columns name) shown name

abbrev pub with_new : TableDef → Column → TableDef
with_new table column = record {
  columns = table.columns ++ column ∷ [];
  next_column = min (table.next_column + 1) (2 ^ 32 - 1);
  stats = stats_with_new table.stats;
}

abbrev pub put_new_column : Entry → TableDef → Column → Alteration
put_new_column entry table column = put_table entry (with_new table column) (rows.Fill column.id (default_or_null column.default_value) column.not_null)

-- ADD COLUMN: 42701, 54000 past 128 columns, 42704, those of the default
unfoldable pub column_added : Entry → TableDef → QName → ColumnDef → Altering
column_added entry table shown new =
    go_on (unnamed table shown new.name) (λ _. go_on (within 128 (length table.columns + 1)) (λ _.
    go_on (column_of (record { 0 = table.next_column }) new false) (λ column. Ok (put_new_column entry table column))))

abbrev pub has_column : ColId → List ColId → Bool
has_column column [] = false
has_column column (other ∷ others) = if other.0 == column.0 then true else has_column column others

abbrev pub is_over : ColId → Def → Bool
is_over column (def.Index index) = has_column column index.columns
is_over column (def.Table table) = false
is_over column (def.View view) = false

-- each index over the column is dropped
abbrev pub drops_over : ColId → List Entry → List Step
drops_over column [] = []
drops_over column (index ∷ indexes) = if is_over column index.def then Drops index.id ∷ drops_over column indexes else drops_over column indexes

abbrev pub without_column : TableDef → ColId → TableDef
without_column table column = record table { columns = columns_without column table.columns }

abbrev pub narrower : Entry → TableDef → ColId → Step
narrower entry table column = put entry.id entry.schema entry.name (def.Table (without_column table column))

-- the indexes over the column go before it
abbrev pub put_without : CatalogState → Entry → TableDef → ColId → Alteration
put_without catalog entry table column = record {
  rows = rows.Nothing;
  made = (drops_over column (indexes_of entry.id catalog.slots) ++ narrower entry table column ∷ []) ++ Touches entry.id ∷ [];
}

-- DROP COLUMN: 42703, 2BP01 where a view names it, 0A000 for the last one
unfoldable pub column_dropped : CatalogState → Entry → TableDef → QName → Text → Bool → Altering
column_dropped catalog entry table shown name used =
    go_on (known_column table shown name) (λ column.
    if used then Err (naming_two ColumnHasDependents name (written shown))
    else (if nat_le (length table.columns) 1 then Err (plain LastColumn)
    else Ok (put_without catalog entry table column.id)))

abbrev pub with_column : TableDef → Column → TableDef
with_column table column = record table { columns = columns_with column table.columns }

abbrev pub put_column : Entry → TableDef → Column → RowWork → Alteration
put_column entry table column work = put_table entry (with_column table column) work

-- RENAME COLUMN: 42703, 42701
unfoldable pub column_renamed : Entry → TableDef → QName → Text → Text → Altering
column_renamed entry table shown name new =
    go_on (known_column table shown name) (λ column. go_on (unnamed table shown new) (λ _.
    Ok (put_column entry table (with_name column new) rows.Nothing)))

-- a column of another type loses its statistics
abbrev pub put_typed : Entry → TableDef → Column → Alteration
put_typed entry table column =
    put_table entry (record { columns = columns_with column table.columns; next_column = table.next_column; stats = stats_without table.stats column.id })
    (rows.Convert column.id column.kind)

-- TYPE: 42703, 42704, 0A000 where a view names it, 42804, 22003 of the default
unfoldable pub type_set : Entry → TableDef → QName → Text → Text → Bool → Altering
type_set entry table shown name type_name used =
    go_on (known_column table shown name) (λ column. go_on (column_type type_name) (λ kind.
    if used then Err (plain ColumnTypeUsedByView)
    else (if is_assignable column.kind kind
    then go_on (of_type kind column) (λ changed. Ok (put_typed entry table changed))
    else Err (mismatch name kind column.kind))))

-- SET DEFAULT: 42703, those of the default
unfoldable pub default_set : Entry → TableDef → QName → Text → Literal → Altering
default_set entry table shown name literal =
    go_on (known_column table shown name) (λ column. go_on (default_written literal name column.kind) (λ value.
    Ok (put_column entry table (with_default column value) rows.Nothing)))

-- SET NOT NULL: 42703
unfoldable pub not_null_set : Entry → TableDef → QName → Text → Altering
not_null_set entry table shown name =
    go_on (known_column table shown name) (λ column. Ok (put_column entry table (with_not_null column true) (rows.CheckNotNull column.id)))

abbrev pub is_primary_over : ColId → Def → Bool
is_primary_over column (def.Index index) = index.primary && has_column column index.columns
is_primary_over column (def.Table table) = false
is_primary_over column (def.View view) = false

abbrev pub any_primary_over : ColId → List Entry → Bool
any_primary_over column [] = false
any_primary_over column (index ∷ indexes) = if is_primary_over column index.def then true else any_primary_over column indexes

-- DROP NOT NULL: 42703, 42P16 for a column of the primary key
unfoldable pub not_null_dropped : CatalogState → Entry → TableDef → QName → Text → Altering
not_null_dropped catalog entry table shown name =
    go_on (known_column table shown name) (λ column.
    if any_primary_over column.id (indexes_of entry.id catalog.slots) then Err (naming ColumnInPrimaryKey name)
    else Ok (put_column entry table (with_not_null column false) rows.Nothing))
