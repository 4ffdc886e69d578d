use Rattle.std.proofs.Common.{◌≡◌, drop}
use Rattle.analyzer.specs.Outputs.{columns_from}
use Rattle.analyzer.proofs.outputs.add_columns.Given as goal

abbrev pub invariant-loop-column : goal.invariant-loop-column
invariant-loop-column l = columns_from l.found l.number l.item.offset l.id (drop l.column-index l.item.relation.columns) ≡ columns_from l.fn.found l.number l.item.offset 0 l.item.relation.columns
