use Rattle.std.specs.Prelude.{◌≡◌, Result, Ok, Err}
use Rattle.q_base.specs.declared.code.Code.{Code}
use Rattle.q_scalar.specs.declared.eval.EvalStop.{EvalStop}
use Rattle.q_scalar.specs.declared.eval.EvalStop.TheVariants.{Fault, NoMemory}

-- a call gives the value or the fault that is expected, or stops for want of memory
abbrev pub Gives : {A : Type 0} → Result A Code → Result A EvalStop → Type 0
Gives expected (Ok found) = expected ≡ Ok found
Gives expected (Err (Fault code)) = expected ≡ Err code
Gives expected (Err NoMemory) = Unit {0}
