use Rattle.std.proofs.Common.{◌≡◌, take}
use Rattle.analyzer.specs.Relations.{all_columns}
use Rattle.analyzer.proofs.relations.all_columns.Given as goal

abbrev pub invariant-loop-column : goal.invariant-loop-column
invariant-loop-column l = l.found ≡ all_columns (take l.column-index l.columns)
