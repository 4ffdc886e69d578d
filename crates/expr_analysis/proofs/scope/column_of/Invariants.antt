use Rattle.std.proofs.Common.{◌≡◌, drop}
use Rattle.expr_analysis.specs.Scopes.{column_of_from}
use Rattle.expr_analysis.proofs.scope.column_of.Given as goal

abbrev pub invariant-loop-known : goal.invariant-loop-known
invariant-loop-known l = column_of_from l.number l.item l.name (drop l.known-index l.known-items) ≡ column_of_from l.scope.first l.item l.name l.scope.items.now
