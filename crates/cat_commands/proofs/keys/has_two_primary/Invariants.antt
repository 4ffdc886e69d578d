use Rattle.std.proofs.Common.{◌≡◌, drop, false}
use Rattle.cat_commands.specs.Keys as spec
use Rattle.cat_commands.proofs.keys.has_two_primary.Given as goal

abbrev pub invariant-loop-key : goal.invariant-loop-key
invariant-loop-key l = spec.has_two_primary l.found (drop l.key-index l.keys) ≡ spec.has_two_primary false l.keys
