use Rattle.std.proofs.Common.{◌≡◌, drop}
use Rattle.cat_commands.specs.Keys as spec
use Rattle.cat_commands.proofs.keys.check_known.Given as goal

abbrev pub invariant-loop-key : goal.invariant-loop-key
invariant-loop-key l = spec.known l.columns (drop l.key-index l.keys) ≡ spec.known l.columns l.keys
