use Rattle.std.proofs.Common.{◌≡◌, drop, ◌++◌}
use Rattle.cat_core.specs.Finding.{entries}
use Rattle.cat_commands.specs.Alter as spec
use Rattle.cat_commands.specs.Steps.{steps}
use Rattle.cat_commands.proofs.alter.moved_indexes.Given as goal

abbrev pub invariant-loop-index : goal.invariant-loop-index
invariant-loop-index l = steps l.all ++ spec.moved_indexes l.schema (entries (drop l.index-index l.indexes)) ≡ steps l.fn.changes ++ spec.moved_indexes l.schema (entries l.indexes)
