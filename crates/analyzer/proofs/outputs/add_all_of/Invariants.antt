use Rattle.std.proofs.Common.{◌≡◌, drop}
use Rattle.analyzer.specs.Outputs.{columns_of_from}
use Rattle.analyzer.proofs.outputs.add_all_of.Given as goal

abbrev pub invariant-loop-item : goal.invariant-loop-item
invariant-loop-item l = columns_of_from l.first l.number l.named l.found (drop l.item-index l.item-items) ≡ columns_of_from l.first l.scope.first l.named l.fn.found l.scope.items.now
