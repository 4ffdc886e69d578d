-- Defaults of columns.
use Rattle.std.specs.Prelude.{ℤ, Option, None, Some, Result, Ok, Err, if◌then◌else◌}
use Rattle.q_base.specs.declared.code.Code.TheVariants.{ColumnTypeMismatch, BigintOutOfRange}
use Rattle.q_base.specs.declared.errors.SqlError.{SqlError}
use Rattle.q_value.specs.declared.value.SqlType.{SqlType}
use Rattle.q_value.specs.declared.value.Value.{Value}
use Rattle.q_value.specs.declared.value.Value.TheVariants as value
use Rattle.q_value.specs.Values.{type_name, kind_of}
use Rattle.q_value.specs.Parse.{parsed}
use Rattle.q_value.specs.Conversions.{converted}
use Rattle.sql_tree.specs.declared.expr.Literal.{Literal}
use Rattle.sql_tree.specs.declared.expr.Literal.TheVariants as literal
use Rattle.sql_tree.specs.declared.expr.Numeral.{Numeral}
use Rattle.cat_commands.specs.Numbers.{number_of, narrowest}
use Rattle.cat_commands.specs.Types.{is_assignable}
use Rattle.cat_commands.specs.Names.{Text, go_on, naming_three, plain}

abbrev pub Default : Type 0
Default = Result (Option Value) SqlError

abbrev pub given : Result Value SqlError → Default
given found = go_on found (λ v. Ok (Some v))

abbrev pub mismatch : Text → SqlType → SqlType → SqlError
mismatch column kind source = naming_three ColumnTypeMismatch column (type_name kind) (type_name source)

abbrev pub assigned_from : Option SqlType → Text → SqlType → Value → Default
assigned_from None column kind v = given (converted kind v)
assigned_from (Some source) column kind v = if is_assignable source kind then given (converted kind v) else Err (mismatch column kind source)

-- a value as a column of a type is given it
unfoldable pub assigned : Text → SqlType → Value → Default
assigned column kind v = assigned_from (kind_of v) column kind v

abbrev pub default_from : Option ℤ → Text → SqlType → Default
default_from None column kind = Err (plain BigintOutOfRange)
default_from (Some number) column kind = assigned column kind (narrowest number)

abbrev pub default_number : Numeral → Text → SqlType → Default
default_number numeral column kind = default_from (number_of numeral) column kind

abbrev pub default_text : Text → SqlType → Default
default_text text kind = given (parsed kind text)

-- the default that a literal gives a column of a type
unfoldable pub default_written : Literal → Text → SqlType → Default
default_written literal.Null column kind = Ok None
default_written (literal.Text text) column kind = default_text text kind
default_written (literal.Bool truth) column kind = assigned column kind (value.Bool truth)
default_written (literal.Number numeral) column kind = default_number numeral column kind

abbrev pub default_of : Option Literal → Text → SqlType → Default
default_of None column kind = Ok None
default_of (Some written) column kind = default_written written column kind
