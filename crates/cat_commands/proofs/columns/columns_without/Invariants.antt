use Rattle.std.proofs.Common.{◌≡◌, drop, ◌++◌}
use Rattle.cat_commands.specs.Columns as spec
use Rattle.cat_commands.proofs.columns.columns_without.Given as goal

abbrev pub invariant-loop-column : goal.invariant-loop-column
invariant-loop-column l = l.kept ++ spec.columns_without l.id (drop l.column-index l.columns) ≡ spec.columns_without l.id l.columns
