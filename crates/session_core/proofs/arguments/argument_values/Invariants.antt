use Rattle.std.proofs.Common.{◌≡◌, drop}
use Rattle.session_core.specs.Arguments as spec
use Rattle.session_core.proofs.arguments.argument_values.Given as goal

abbrev pub invariant-loop-target : goal.invariant-loop-target
invariant-loop-target l = spec.values_from l.values (drop l.target-index l.targets) l.left ≡ spec.argument_values l.targets l.kinds
