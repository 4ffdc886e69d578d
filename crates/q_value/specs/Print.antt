use Rattle.std.specs.Prelude.{ℕ, true, false, List, [], codes}
use Rattle.std.specs.Fmt.{signed_decimal}
use Rattle.q_value.specs.declared.value.Value.{Value}
use Rattle.q_value.specs.declared.value.Value.TheVariants as value

-- a value as it stands in a printed row
abbrev pub printed : Value → List ℕ
printed value.Null = []
printed (value.Int2 number) = signed_decimal number
printed (value.Int4 number) = signed_decimal number
printed (value.Int8 number) = signed_decimal number
printed (value.Text text) = text
printed (value.Bool true) = codes "t"
printed (value.Bool false) = codes "f"
