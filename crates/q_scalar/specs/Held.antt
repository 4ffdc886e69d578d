-- What a held value is seen as.
use Rattle.std.specs.Prelude.{Result, Ok, Err}
use Rattle.q_base.specs.declared.code.Code.{Code}
use Rattle.q_value.specs.declared.value.Value.{Value}
use Rattle.q_scalar.specs.declared.held.Held.{Held}
use Rattle.q_scalar.specs.declared.held.Held.TheVariants as held

abbrev pub value_in : Held → Value
value_in (held.Lent value) = value.now
value_in (held.Made value) = value

abbrev pub outcome_value : Result Held Code → Result Value Code
outcome_value (Ok found) = Ok (value_in found)
outcome_value (Err code) = Err code
