use Rattle.std.proofs.Common.{◌≡◌, drop}
use Rattle.expr_analysis.specs.Scopes.{column_from, column_in}
use Rattle.expr_analysis.proofs.scope.column_in.Given as goal

abbrev pub invariant-loop-column : goal.invariant-loop-column
invariant-loop-column l = column_from l.number l.item.offset l.id l.name (drop l.column-index l.column-items) ≡ column_in l.number l.item l.name
