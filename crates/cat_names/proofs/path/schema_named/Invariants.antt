use Rattle.std.proofs.Common.{◌≡◌, drop}
use Rattle.cat_names.specs.Paths as spec
use Rattle.cat_names.proofs.path.schema_named.Given as goal

abbrev pub invariant-loop-schema : goal.invariant-loop-schema
invariant-loop-schema l = spec.schema_named (drop l.schema-index l.schemas) l.name ≡ spec.schema_named l.schemas l.name
