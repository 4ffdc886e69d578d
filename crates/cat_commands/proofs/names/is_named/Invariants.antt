use Rattle.std.proofs.Common.{◌≡◌, drop}
use Rattle.cat_commands.specs.Names as spec
use Rattle.cat_commands.proofs.names.is_named.Given as goal

abbrev pub invariant-loop-other : goal.invariant-loop-other
invariant-loop-other l = spec.is_named l.name (drop l.other-index l.names) ≡ spec.is_named l.name l.names
