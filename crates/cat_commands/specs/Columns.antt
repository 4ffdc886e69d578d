-- Columns that ALTER TABLE changes.
use Rattle.std.specs.Prelude.{◌==◌, Bool, Option, None, Some, Result, Ok, List, [], ◌∷◌, if◌then◌else◌}
use Rattle.q_base.specs.declared.errors.SqlError.{SqlError}
use Rattle.q_base.specs.declared.ids.ColId.{ColId}
use Rattle.q_value.specs.declared.value.SqlType.{SqlType}
use Rattle.q_value.specs.declared.value.Value.{Value}
use Rattle.q_value.specs.declared.value.Value.TheVariants as value
pub use Rattle.q_value.specs.Conversions.{converted}
use Rattle.cat_core.specs.declared.entry.Column.{Column}
use Rattle.cat_commands.specs.Names.{Text, go_on}
pub use Rattle.cat_commands.specs.Defaults.{Default, given}

abbrev pub default_or_null : Option Value → Value
default_or_null (Some found) = found
default_or_null None = value.Null

abbrev pub one_of : Column → Column → Column
one_of new column = if column.id.0 == new.id.0 then new else column

-- one column in place of that of its id
abbrev pub columns_with : Column → List Column → List Column
columns_with new [] = []
columns_with new (column ∷ columns) = one_of new column ∷ columns_with new columns

abbrev pub columns_without : ColId → List Column → List Column
columns_without id [] = []
columns_without id (column ∷ columns) = if column.id.0 == id.0 then columns_without id columns else column ∷ columns_without id columns

abbrev pub with_name : Column → Text → Column
with_name column name = record column { name = name }

abbrev pub with_default : Column → Option Value → Column
with_default column found = record column { default_value = found }

abbrev pub with_not_null : Column → Bool → Column
with_not_null column not_null = record column { not_null = not_null }

abbrev pub default_converted : SqlType → Option Value → Default
default_converted kind None = Ok None
default_converted kind (Some found) = given (converted kind found)

-- another type, to which the default is converted
abbrev pub of_type : SqlType → Column → Result Column SqlError
of_type kind column = go_on (default_converted kind column.default_value) (λ found. Ok (record column { kind = kind; default_value = found }))
