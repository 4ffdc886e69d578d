use Rattle.std.proofs.Common.{◌≡◌, drop, ◌++◌}
use Rattle.cat_commands.specs.Indexes as spec
use Rattle.cat_commands.proofs.indexes.column_names.Given as goal

abbrev pub invariant-loop-column : goal.invariant-loop-column
invariant-loop-column l = l.names ++ spec.column_names (drop l.column-index l.columns) ≡ spec.column_names l.columns
