use Rattle.std.proofs.Common.{◌≡◌, drop, ◌++◌}
use Rattle.cat_core.specs.Finding as spec
use Rattle.cat_core.proofs.catalog.Catalog.views.Given as goal

abbrev pub invariant-loop-slot : goal.invariant-loop-slot
invariant-loop-slot l = spec.entries l.found ++ spec.chosen spec.is_view (drop l.slot-index l.slot-items) ≡ spec.chosen spec.is_view l.slot-items
