use Rattle.std.proofs.Common.{◌≡◌, drop}
use Rattle.cat_commands.specs.Keys as spec
use Rattle.cat_commands.proofs.keys.check_columns.Given as goal

abbrev pub invariant-loop-name : goal.invariant-loop-name
invariant-loop-name l = spec.known_columns l.columns (drop l.name-index l.names) ≡ spec.known_columns l.columns l.names
