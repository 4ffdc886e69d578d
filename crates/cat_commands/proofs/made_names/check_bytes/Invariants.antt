use Rattle.std.proofs.Common.{◌≡◌, drop}
use Rattle.cat_commands.specs.MadeNames as spec
use Rattle.cat_commands.proofs.made_names.check_bytes.Given as goal

abbrev pub invariant-loop-name : goal.invariant-loop-name
invariant-loop-name l = spec.short_names (drop l.name-index l.names) ≡ spec.short_names l.names
