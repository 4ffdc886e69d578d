use Rattle.std.proofs.Common.{◌≡◌, drop}
use Rattle.cat_deps.specs.Naming as spec
use Rattle.cat_deps.proofs.naming.+names.Given as goal

abbrev pub invariant-any_names-loop-target : goal.invariant-any_names-loop-target
invariant-any_names-loop-target l = spec.any_names l.named l.items (drop l.target-index l.targets) ≡ spec.any_names l.named l.items l.targets
