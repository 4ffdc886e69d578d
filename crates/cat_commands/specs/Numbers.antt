-- Numbers as they are written.
use Rattle.std.specs.Prelude.{ℤ, Option, None, Some, Result, Ok, Err, ◌++◌, codes, if◌then◌else◌}
use Rattle.q_base.specs.declared.errors.SqlError.{SqlError}
use Rattle.q_value.specs.declared.value.SqlType.TheVariants as kind
use Rattle.q_value.specs.declared.value.Value.{Value}
use Rattle.q_value.specs.declared.value.Value.TheVariants as value
use Rattle.q_value.specs.Values.{integer_in}
use Rattle.q_value.specs.Parse.{parsed}
use Rattle.sql_tree.specs.declared.expr.Numeral.{Numeral}
use Rattle.cat_commands.specs.Names.{Text}

abbrev pub number_found : Result Value SqlError → Option ℤ
number_found (Ok found) = Rattle.q_value.specs.Values.number_of found
number_found (Err error) = None

-- the number that a text writes, where it is a bigint
unfoldable pub bigint_of : Text → Option ℤ
bigint_of text = number_found (parsed kind.Int8 text)

abbrev pub with_minus : Text → Text
with_minus digits = codes "-" ++ digits

abbrev pub number_of : Numeral → Option ℤ
number_of numeral = bigint_of (if numeral.negative then with_minus numeral.digits else numeral.digits)

abbrev pub integer_or_bigint : ℤ → Option Value → Value
integer_or_bigint number (Some narrow) = narrow
integer_or_bigint number None = value.Int8 number

-- an integer where it is one, else a bigint
abbrev pub narrowest : ℤ → Value
narrowest number = integer_or_bigint number (integer_in kind.Int4 number)
