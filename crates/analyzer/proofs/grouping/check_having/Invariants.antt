use Rattle.std.proofs.Common.{◌≡◌, drop}
use Rattle.expr_analysis.specs.Sights.{sight}
use Rattle.analyzer.specs.Grouping.{check_having}
use Rattle.analyzer.proofs.grouping.check_having.Given as goal

abbrev pub invariant-loop-cond : goal.invariant-loop-cond
invariant-loop-cond l = check_having (sight l.scope) l.keys (drop l.cond-index l.having) ≡ check_having (sight l.scope) l.keys l.having
