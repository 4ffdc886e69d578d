use Rattle.std.proofs.Common.{◌≡◌, drop}
use Rattle.expr_analysis.specs.Sights.{sight}
use Rattle.analyzer.specs.Grouping.{check_order}
use Rattle.analyzer.proofs.grouping.check_order.Given as goal

abbrev pub invariant-loop-key : goal.invariant-loop-key
invariant-loop-key l = check_order (sight l.scope) l.keys (drop l.key-index l.order) ≡ check_order (sight l.scope) l.keys l.order
