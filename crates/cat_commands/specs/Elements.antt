-- What stands between the parentheses of CREATE TABLE.
use Rattle.std.specs.Prelude.{ℕ, ◌-◌, ◌^◌, min, Bool, true, false, ◌||◌, Result, Ok, List, [], ◌∷◌, ◌++◌, length}
use Rattle.q_base.specs.declared.errors.SqlError.{SqlError}
use Rattle.q_base.specs.declared.ids.ColId.{ColId}
use Rattle.sql_tree.specs.declared.catalog.ColumnDef.{ColumnDef}
use Rattle.sql_tree.specs.declared.catalog.Nullability.{Nullability}
use Rattle.sql_tree.specs.declared.catalog.Nullability.TheVariants as nullability
use Rattle.sql_tree.specs.declared.catalog.TableElement.{TableElement}
use Rattle.sql_tree.specs.declared.catalog.TableElement.TheVariants as element
use Rattle.cat_core.specs.declared.entry.Column.{Column}
use Rattle.cat_commands.specs.Types.{column_type}
use Rattle.cat_commands.specs.Names.{Text, Checked, unrepeated, go_on}
use Rattle.cat_commands.specs.Limits.{within}
use Rattle.cat_commands.specs.Keys.{is_in_primary}
use Rattle.cat_commands.specs.Defaults.{default_of}

abbrev pub names_of : List TableElement → List Text
names_of [] = []
names_of (element.Column column ∷ elements) = column.name ∷ names_of elements
names_of (element.Key key ∷ elements) = names_of elements

-- each type is known, else 42704
abbrev pub typed : List TableElement → Checked
typed [] = Ok tt
typed (element.Column column ∷ elements) = go_on (column_type column.type_name) (λ _. typed elements)
typed (element.Key key ∷ elements) = typed elements

-- each cause is sought in all columns before the next
unfoldable pub checked_names : List TableElement → Result (List Text) SqlError
checked_names elements = go_on (within 128 (length (names_of elements))) (λ _. go_on (unrepeated (names_of elements)) (λ _. go_on (typed elements) (λ _. Ok (names_of elements))))

abbrev pub forbids_null : Nullability → Bool
forbids_null nullability.NotNull = true
forbids_null nullability.Null = false
forbids_null nullability.Unsaid = false

-- a column as its definition says
unfoldable pub column_of : ColId → ColumnDef → Bool → Result Column SqlError
column_of id written primary = go_on (column_type written.type_name) (λ kind. go_on (default_of written.default written.name kind) (λ value. Ok (record { id = id; name = written.name; kind = kind; not_null = primary || forbids_null written.nullability; default_value = value })))

abbrev pub id_at : ℕ → ColId
id_at place = record { 0 = min place (2 ^ 32 - 1) }

-- the columns in order, behind those found, with ids from 0 on
abbrev pub columns_from : List TableElement → List Column → List TableElement → Result (List Column) SqlError
columns_from all found [] = Ok found
columns_from all found (element.Column written ∷ elements) = go_on (column_of (id_at (length found)) written (is_in_primary written.name all)) (λ column. columns_from all (found ++ column ∷ []) elements)
columns_from all found (element.Key key ∷ elements) = columns_from all found elements
