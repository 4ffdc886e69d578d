use Rattle.std.proofs.Common.{◌≡◌, drop, ◌++◌}
use Rattle.cat_core.specs.Finding.{entries}
use Rattle.cat_commands.specs.AlterColumns as spec
use Rattle.cat_commands.specs.Steps.{steps}
use Rattle.cat_commands.proofs.alter_columns.drop_indexes.Given as goal

abbrev pub invariant-loop-index : goal.invariant-loop-index
invariant-loop-index l = steps l.changes ++ spec.drops_over l.column (entries (drop l.index-index l.indexes)) ≡ spec.drops_over l.column (entries l.indexes)
