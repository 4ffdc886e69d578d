-- The values of EXECUTE's arguments.
use Rattle.std.specs.Prelude.{List, [], ◌∷◌, ◌++◌, Result, Ok, Err}
use Rattle.q_base.specs.declared.code.Code.{Code}
use Rattle.q_base.specs.declared.errors.SqlError.{SqlError}
use Rattle.q_base.specs.declared.errors.Stop.{Stop}
use Rattle.q_base.specs.declared.errors.Stop.TheVariants as stop
use Rattle.q_scalar.specs.declared.eval.EvalStop.{EvalStop}
use Rattle.q_scalar.specs.declared.eval.EvalStop.TheVariants as eval
use Rattle.q_value.specs.declared.value.SqlType.{SqlType}
use Rattle.q_value.specs.declared.value.Value.{Value}
use Rattle.q_value.specs.Conversions.{converted, plain}
use Rattle.query_tree.specs.declared.target.Target.{Target}
use Rattle.query_tree.specs.Evaluation.{value_of}

-- a stop of an evaluation as one of a command
abbrev pub stop_of : EvalStop → Stop
stop_of (eval.Fault code) = stop.Sql (plain code)
stop_of eval.NoMemory = stop.NoMemory

-- a fault as a refusal
abbrev pub refused_by : {A : Type 0} → Result A Code → Result A SqlError
refused_by (Ok found) = Ok found
refused_by (Err code) = Err (plain code)

-- what was found goes on, and the first refusal stands
abbrev pub and_then : {A B : Type 0} → Result A SqlError → (A → Result B SqlError) → Result B SqlError
and_then (Ok found) next = next found
and_then (Err error) next = Err error

-- the value of an argument, as a value of the parameter's type
abbrev pub argument_value : SqlType → Target → Result Value SqlError
argument_value kind target = and_then (refused_by (value_of target [] [])) (converted kind)

-- the values behind those found, in order
abbrev pub values_from : List Value → List Target → List SqlType → Result (List Value) SqlError
values_from found [] kinds = Ok found
values_from found (target ∷ targets) [] = Ok found
values_from found (target ∷ targets) (kind ∷ kinds) = and_then (argument_value kind target) (λ v. values_from (found ++ v ∷ []) targets kinds)

abbrev pub argument_values : List Target → List SqlType → Result (List Value) SqlError
argument_values targets kinds = values_from [] targets kinds
