use Rattle.std.proofs.Common.{◌≡◌, drop}
use Rattle.cat_core.specs.Finding.{entries}
use Rattle.cat_commands.specs.AlterColumns as spec
use Rattle.cat_commands.proofs.alter_columns.any_primary_over.Given as goal

abbrev pub invariant-loop-index : goal.invariant-loop-index
invariant-loop-index l = spec.any_primary_over l.column (entries (drop l.index-index l.indexes)) ≡ spec.any_primary_over l.column (entries l.indexes)
