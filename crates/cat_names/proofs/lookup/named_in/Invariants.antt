use Rattle.std.proofs.Common.{◌≡◌, drop}
use Rattle.cat_names.specs.Lookup as spec
use Rattle.cat_names.proofs.lookup.named_in.Given as goal

abbrev pub invariant-loop-row : goal.invariant-loop-row
invariant-loop-row l = spec.named_in (drop l.row-index l.names) l.schema l.name ≡ spec.named_in l.names l.schema l.name
