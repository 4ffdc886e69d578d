use Rattle.std.proofs.Common.{Result, subst}
use Rattle.q_base.specs.declared.code.Code.{Code}
use Rattle.q_value.specs.declared.value.Value.{Value}
use Rattle.q_value.specs.Values.{IsOf}
use Rattle.q_scalar.specs.Stops.{Gives}
use Rattle.q_scalar.proofs.Stops.{given_is}
use Rattle.q_scalar.proofs.eval.eval_target.Goals as goal

pub returns-clause-typed : goal.returns-clause-typed
returns-clause-typed c = λ columns types kind typed fits given.
    given_is (IsOf kind) _ c.owned.result (subst (λ (outcome : Result Value Code). Gives outcome c.owned.result) c.outcome.ensures c.owned.ensures)
    (c.types.ensures.values columns types kind _ _ _ typed fits given)
