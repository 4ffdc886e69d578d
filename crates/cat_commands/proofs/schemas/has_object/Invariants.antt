use Rattle.std.proofs.Common.{◌≡◌, drop}
use Rattle.cat_commands.specs.Schemas as spec
use Rattle.cat_commands.proofs.schemas.has_object.Given as goal

abbrev pub invariant-loop-row : goal.invariant-loop-row
invariant-loop-row l = spec.has_object l.schema (drop l.row-index l.names) ≡ spec.has_object l.schema l.names
