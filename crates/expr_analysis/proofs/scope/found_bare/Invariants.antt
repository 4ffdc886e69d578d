use Rattle.std.proofs.Common.{◌≡◌, drop}
use Rattle.expr_analysis.specs.Scopes.{found_from, nowhere}
use Rattle.expr_analysis.proofs.scope.found_bare.Given as goal

abbrev pub invariant-loop-item : goal.invariant-loop-item
invariant-loop-item l = found_from l.found l.number l.name (drop l.item-index l.item-items) ≡ found_from nowhere l.scope.first l.name l.scope.items.now
