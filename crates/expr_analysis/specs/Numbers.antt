-- Numbers as they are written.
use Rattle.std.specs.Prelude.{ℕ, ◌==◌, ℤ, Bool, Option, None, Some, Result, Ok, Err, List, ◌++◌, drop, codes, if◌then◌else◌}
use Rattle.std.specs.Fmt.{signed_decimal}
use Rattle.std.specs.List.{prefix_len}
use Rattle.q_base.specs.declared.code.Code.TheVariants.{BigintOutOfRange}
use Rattle.q_base.specs.declared.errors.SqlError.{SqlError}
use Rattle.q_value.specs.declared.value.SqlType.TheVariants as kind
use Rattle.q_value.specs.declared.value.Value.{Value}
use Rattle.q_value.specs.declared.value.Value.TheVariants as value
use Rattle.q_value.specs.Values.{integer_in}
use Rattle.q_value.specs.Conversions.{plain}
use Rattle.q_value.specs.Parse.{parsed}
use Rattle.query_tree.specs.declared.target.Target.{Target}
use Rattle.query_tree.specs.declared.target.Target.TheVariants as target
use Rattle.sql_tree.specs.declared.expr.Numeral.{Numeral}

abbrev pub number_found : Result Value SqlError → Option ℤ
number_found (Ok found) = Rattle.q_value.specs.Values.number_of found
number_found (Err error) = None

-- the number that a text writes, where it is a bigint
unfoldable pub bigint_of : List ℕ → Option ℤ
bigint_of text = number_found (parsed kind.Int8 text)

abbrev pub with_minus : List ℕ → List ℕ
with_minus digits = codes "-" ++ digits

-- a number's text
abbrev pub written : Bool → List ℕ → List ℕ
written negative digits = if negative then with_minus digits else digits

abbrev pub number_of : Bool → List ℕ → Option ℤ
number_of negative digits = bigint_of (written negative digits)

-- the digits behind the zeros that stand first
abbrev pub without_zeros : List ℕ → List ℕ
without_zeros digits = drop (prefix_len (λ digit. digit == 48) digits) digits

abbrev pub shown_as : Option ℤ → List ℕ → List ℕ
shown_as (Some number) text = signed_decimal number
shown_as None text = text

-- as refusals show a number
unfoldable pub shown_number : Bool → List ℕ → List ℕ
shown_number negative digits = shown_as (number_of negative digits) (written negative (without_zeros digits))

abbrev pub integer_or_bigint : ℤ → Option Value → Target
integer_or_bigint number (Some narrow) = target.Const kind.Int4 narrow
integer_or_bigint number None = target.Const kind.Int8 (value.Int8 number)

-- an integer where it is one, else a bigint
abbrev pub narrowest : ℤ → Target
narrowest number = integer_or_bigint number (integer_in kind.Int4 number)

abbrev pub in_bigint : (ℤ → Target) → Option ℤ → Result Target SqlError
in_bigint f (Some number) = Ok (f number)
in_bigint f None = Err (plain BigintOutOfRange)

unfoldable pub number_constant : Numeral → Result Target SqlError
number_constant numeral = in_bigint narrowest (number_of numeral.negative numeral.digits)

unfoldable pub bigint_constant : Numeral → Result Target SqlError
bigint_constant numeral = in_bigint (λ number. target.Const kind.Int8 (value.Int8 number)) (number_of numeral.negative numeral.digits)
