use Rattle.std.proofs.Common.{◌≡◌, take}
use Rattle.analyzer.specs.Assignments.{assigned_columns}
use Rattle.analyzer.proofs.assignments.assigned_columns.Given as goal

abbrev pub invariant-loop-column : goal.invariant-loop-column
invariant-loop-column l = l.found ≡ assigned_columns (take l.column-index l.columns)
