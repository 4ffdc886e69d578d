use Rattle.std.proofs.Common.{◌≡◌, map, take}
use Rattle.std.specs.Option.{option_copied}
use Rattle.planner.specs.Changed.{changed, changing}
use Rattle.planner.proofs.changed.all_changed.Given as goal

abbrev pub invariant-loop-target : goal.invariant-loop-target
invariant-loop-target l = l.copies ≡ map (changed (changing (option_copied l.change.params) l.change.offsets.now l.change.width)) (take l.target-index l.targets)
