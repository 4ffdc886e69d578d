use Rattle.std.specs.Prelude.{⊤}
use Rattle.std.proofs.lemmas.Result.{MatchResult-from_err}
use Rattle.plan_invalid.proofs.Pairs.{ListsMore-more, ListsSome-first}
use Rattle.plan_invalid.proofs.index.list.Goals as goal

pub loop-id-preserved : goal.loop-id-preserved
loop-id-preserved c = ListsMore-more _ _ _ _ _ _ _ c.loop-id-test.true c.loop-id.invariant c.in_ok-list_one.ensures.ok

pub returns-in_err-list_one-clause-err : goal.returns-in_err-list_one-clause-err
returns-in_err-list_one-clause-err c =
    let some = ListsSome-first _ _ _ _ _ _ c.loop-id.invariant c.in_err-list_one.ensures.err in
    MatchResult-from_err c.from_residual.result (λ _. ⊤) (λ _. _) c.from_residual.ensures.0 (λ _. some)
