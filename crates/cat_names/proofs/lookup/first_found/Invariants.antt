use Rattle.std.proofs.Common.{◌≡◌, drop}
use Rattle.cat_names.specs.Lookup as spec
use Rattle.cat_names.proofs.lookup.first_found.Given as goal

abbrev pub invariant-loop-schema : goal.invariant-loop-schema
invariant-loop-schema l = spec.first_found l.name (drop l.schema-index l.path) l.names ≡ spec.first_found l.name l.path l.names
