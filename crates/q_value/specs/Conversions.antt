use Rattle.std.specs.Prelude.{ℕ, ℤ, Bool, true, false, Result, Ok, Err, List, [], codes}
use Rattle.std.specs.Fmt.{signed_decimal}
use Rattle.q_base.specs.declared.code.Code.{Code}
use Rattle.q_base.specs.declared.code.Code.TheVariants.{ColumnTypeMismatch, SmallintOutOfRange, IntegerOutOfRange, BigintOutOfRange}
use Rattle.q_base.specs.declared.errors.SqlError.{SqlError}
use Rattle.q_value.specs.declared.value.SqlType.{SqlType}
use Rattle.q_value.specs.declared.value.SqlType.TheVariants as kind
use Rattle.q_value.specs.declared.value.Value.{Value}
use Rattle.q_value.specs.declared.value.Value.TheVariants as value
use Rattle.q_value.specs.Parse.{or_error}
use Rattle.q_value.specs.Values.{integer_in}

-- an error whose text has no argument
abbrev pub plain : Code → SqlError
plain code = record { code = code; args = [] }

-- a boolean as a text
abbrev pub truth_text : Bool → List ℕ
truth_text true = codes "true"
truth_text false = codes "false"

-- an integer as a value of another type
abbrev pub integer_converted : SqlType → ℤ → Result Value SqlError
integer_converted kind.Int2 number = or_error (plain SmallintOutOfRange) (integer_in kind.Int2 number)
integer_converted kind.Int4 number = or_error (plain IntegerOutOfRange) (integer_in kind.Int4 number)
integer_converted kind.Int8 number = or_error (plain BigintOutOfRange) (integer_in kind.Int8 number)
integer_converted kind.Text number = Ok (value.Text (signed_decimal number))
integer_converted kind.Bool number = Err (plain ColumnTypeMismatch)

abbrev pub text_converted : SqlType → List ℕ → Result Value SqlError
text_converted kind.Text text = Ok (value.Text text)
text_converted type text = Err (plain ColumnTypeMismatch)

abbrev pub truth_converted : SqlType → Bool → Result Value SqlError
truth_converted kind.Bool truth = Ok (value.Bool truth)
truth_converted kind.Text truth = Ok (value.Text (truth_text truth))
truth_converted type truth = Err (plain ColumnTypeMismatch)

-- a value as it is assigned to a column or a parameter of a type
abbrev pub converted : SqlType → Value → Result Value SqlError
converted type value.Null = Ok value.Null
converted type (value.Int2 number) = integer_converted type number
converted type (value.Int4 number) = integer_converted type number
converted type (value.Int8 number) = integer_converted type number
converted type (value.Text text) = text_converted type text
converted type (value.Bool truth) = truth_converted type truth
