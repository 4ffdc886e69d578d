use Rattle.std.proofs.Common.{◌≡◌, drop}
use Rattle.cat_deps.specs.Naming as spec
use Rattle.cat_deps.proofs.naming.any_view_naming.Given as goal

abbrev pub invariant-loop-row : goal.invariant-loop-row
invariant-loop-row l = spec.is_column_used l.named l.catalog.slots (drop l.row-index l.names) ≡ spec.is_column_used l.named l.catalog.slots l.names
