use Rattle.std.proofs.Common.{◌≡◌, map, drop}
use Rattle.planner.specs.Sets as spec
use Rattle.planner.proofs.changed.+items.Given as goal

abbrev pub invariant-items_of_all-loop-target : goal.invariant-items_of_all-loop-target
invariant-items_of_all-loop-target l = spec.united l.items (map spec.items_of (drop l.target-index l.targets)) ≡ spec.united 0 (map spec.items_of l.targets)
