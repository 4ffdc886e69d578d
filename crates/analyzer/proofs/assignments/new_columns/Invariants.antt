use Rattle.std.proofs.Common.{◌≡◌, map, take}
use Rattle.analyzer.specs.Assignments.{new_column}
use Rattle.analyzer.proofs.assignments.new_columns.Given as goal

abbrev pub invariant-loop-column : goal.invariant-loop-column
invariant-loop-column l = l.found ≡ map new_column (take l.column-index l.columns)
