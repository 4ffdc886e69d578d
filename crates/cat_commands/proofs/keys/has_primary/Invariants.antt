use Rattle.std.proofs.Common.{◌≡◌, drop}
use Rattle.cat_commands.specs.Keys as spec
use Rattle.cat_commands.proofs.keys.has_primary.Given as goal

abbrev pub invariant-loop-kind : goal.invariant-loop-kind
invariant-loop-kind l = spec.has_primary (drop l.kind-index l.kinds) ≡ spec.has_primary l.kinds
