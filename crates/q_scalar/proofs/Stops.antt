-- What a call gives of an outcome.
use Rattle.std.proofs.Common.{◌≡◌, Result, Ok, Err, IfOk, refl, subst}
use Rattle.q_base.specs.declared.code.Code.{Code}
use Rattle.q_value.specs.declared.value.Value.{Value}
use Rattle.q_scalar.specs.declared.eval.EvalStop.{EvalStop}
use Rattle.q_scalar.specs.declared.eval.EvalStop.TheVariants.{Fault, NoMemory}
use Rattle.q_scalar.specs.Stops.{Gives}
use Rattle.query_tree.specs.Evaluation.{truth_or_fault, known}

-- what holds of a value that is expected holds of the value that is given
pub given_is : (P : Value → Type 0) (expected : Result Value Code) (result : Result Value EvalStop) → Gives expected result → IfOk expected P → IfOk result P
given_is P expected (Ok found) gives is = subst (λ (outcome : Result Value Code). IfOk outcome P) gives is
given_is P expected (Err (Fault code)) gives is = tt
given_is P expected (Err NoMemory) gives is = tt

-- where there is a value its truth value is known
pub known_sure : (outcome : Result Value Code) → (found : Value) × (outcome ≡ Ok found) → truth_or_fault outcome ≡ Ok (known (truth_or_fault outcome))
known_sure (Ok found) has = refl
known_sure (Err code) has = absurd (cc has.1)
