use Rattle.std.proofs.Common.{◌≡◌, map, take}
use Rattle.std.specs.Option.{option_copied}
use Rattle.planner.specs.Changed.{changed_aggregate, changing}
use Rattle.planner.proofs.changed.aggregates_changed.Given as goal

abbrev pub invariant-loop-aggregate : goal.invariant-loop-aggregate
invariant-loop-aggregate l = l.copies ≡ map (changed_aggregate (changing (option_copied l.change.params) l.change.offsets.now l.change.width)) (take l.aggregate-index l.aggregates)
