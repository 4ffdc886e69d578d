use Rattle.std.proofs.Common.{◌≡◌, drop}
use Rattle.cat_deps.specs.Naming as spec
use Rattle.cat_deps.proofs.naming.any_key.Given as goal

abbrev pub invariant-loop-key : goal.invariant-loop-key
invariant-loop-key l = spec.any_key l.named l.items (drop l.key-index l.keys) ≡ spec.any_key l.named l.items l.keys
