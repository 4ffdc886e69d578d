use Rattle.std.proofs.Common.{◌≡◌, drop}
use Rattle.expr_analysis.specs.Sights.{sight}
use Rattle.analyzer.specs.Grouping.{check_outputs}
use Rattle.analyzer.proofs.grouping.check_outputs.Given as goal

abbrev pub invariant-loop-output : goal.invariant-loop-output
invariant-loop-output l = check_outputs (sight l.scope) l.keys (drop l.output-index l.outputs) ≡ check_outputs (sight l.scope) l.keys l.outputs
