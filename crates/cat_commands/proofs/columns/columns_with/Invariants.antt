use Rattle.std.proofs.Common.{◌≡◌, drop, ◌++◌}
use Rattle.cat_commands.specs.Columns as spec
use Rattle.cat_commands.proofs.columns.columns_with.Given as goal

abbrev pub invariant-loop-column : goal.invariant-loop-column
invariant-loop-column l = l.all ++ spec.columns_with l.new (drop l.column-index l.columns) ≡ spec.columns_with l.new l.columns
