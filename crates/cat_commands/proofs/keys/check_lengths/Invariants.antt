use Rattle.std.proofs.Common.{◌≡◌, drop}
use Rattle.cat_commands.specs.Keys as spec
use Rattle.cat_commands.proofs.keys.check_lengths.Given as goal

abbrev pub invariant-loop-key : goal.invariant-loop-key
invariant-loop-key l = spec.short (drop l.key-index l.keys) ≡ spec.short l.keys
