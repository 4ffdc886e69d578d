use Rattle.std.proofs.Common.{◌≡◌, drop}
use Rattle.analyzer.specs.Outputs.{items_columns}
use Rattle.analyzer.proofs.outputs.add_all.Given as goal

abbrev pub invariant-loop-item : goal.invariant-loop-item
invariant-loop-item l = items_columns l.found l.number (drop l.item-index l.item-items) ≡ items_columns l.fn.found l.scope.first l.scope.items.now
