use Rattle.std.proofs.Common.{◌≡◌, drop, ◌++◌}
use Rattle.cat_core.specs.Finding.{entries}
use Rattle.cat_commands.specs.Drops as spec
use Rattle.cat_commands.specs.Steps.{steps}
use Rattle.cat_commands.proofs.drops.drop_indexes.Given as goal

abbrev pub invariant-loop-index : goal.invariant-loop-index
invariant-loop-index l = steps l.all ++ spec.drops_of (entries (drop l.index-index l.indexes)) ≡ steps l.fn.changes ++ spec.drops_of (entries l.indexes)
