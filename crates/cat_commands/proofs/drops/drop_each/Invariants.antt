use Rattle.std.proofs.Common.{◌≡◌, drop, ◌++◌}
use Rattle.cat_commands.specs.Drops as spec
use Rattle.cat_commands.specs.Steps.{steps}
use Rattle.cat_commands.proofs.drops.drop_each.Given as goal

abbrev pub invariant-loop-id : goal.invariant-loop-id
invariant-loop-id l = steps l.changes ++ spec.drops (drop l.id-index l.ids) ≡ spec.drops l.ids
