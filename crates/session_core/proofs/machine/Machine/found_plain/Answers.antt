use Rattle.std.proofs.Common.{rules, ◌≡◌, ℕ, List, Err, sym, subst}
use Rattle.q_value.specs.declared.value.SqlType.{SqlType}
use Rattle.q_value.specs.Answers.{Answers}
use Rattle.expr_analysis.specs.Types.{declared_types}
use Rattle.q_base.specs.declared.errors.Stop.{Stop}
use Rattle.analyzer.specs.Statements.{AnalysedAs}
use Rattle.session_core.specs.Prepared.{prepared}
use Rattle.session_core.proofs.Nowhere.{nowhere, types_refused}
use Rattle.session_core.proofs.machine.Machine.found_plain.Goals as goal

pub returns-in_err-types-clause-found : goal.returns-in_err-types-clause-found
returns-in_err-types-clause-found g c =
    let same : c.from_residual.result ≡ Err c.in_err-types.field-0.0 = search rules in
    let refused : Answers (declared_types c.args.tree.now.types) (Err c.in_err-types.field-0.0) = subst (λ (names : List (List ℕ)). Answers {A = List SqlType} (declared_types names) (Err c.in_err-types.field-0.0)) c.as_slice.ensures c.in_err-types.ensures in
    (nowhere, subst (AnalysedAs (prepared nowhere c.args.self.now.statements c.args.tree.now)) (sym same) (types_refused c.args.self.now.statements c.args.tree.now c.in_err-types.field-0.0 refused))
