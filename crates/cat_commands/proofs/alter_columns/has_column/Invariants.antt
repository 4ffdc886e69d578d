use Rattle.std.proofs.Common.{◌≡◌, drop}
use Rattle.cat_commands.specs.AlterColumns as spec
use Rattle.cat_commands.proofs.alter_columns.has_column.Given as goal

abbrev pub invariant-loop-other : goal.invariant-loop-other
invariant-loop-other l = spec.has_column l.column (drop l.other-index l.columns) ≡ spec.has_column l.column l.columns
