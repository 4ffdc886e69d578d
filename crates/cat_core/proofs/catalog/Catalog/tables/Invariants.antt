use Rattle.std.proofs.Common.{◌≡◌, drop, ◌++◌}
use Rattle.cat_core.specs.Finding as spec
use Rattle.cat_core.proofs.catalog.Catalog.tables.Given as goal

abbrev pub invariant-loop-slot : goal.invariant-loop-slot
invariant-loop-slot l = spec.entries l.found ++ spec.chosen spec.is_table (drop l.slot-index l.slot-items) ≡ spec.chosen spec.is_table l.slot-items
