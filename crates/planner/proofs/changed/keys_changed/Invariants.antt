use Rattle.std.proofs.Common.{◌≡◌, map, take}
use Rattle.std.specs.Option.{option_copied}
use Rattle.planner.specs.Changed.{changed_key, changing}
use Rattle.planner.proofs.changed.keys_changed.Given as goal

abbrev pub invariant-loop-key : goal.invariant-loop-key
invariant-loop-key l = l.copies ≡ map (changed_key (changing (option_copied l.change.params) l.change.offsets.now l.change.width)) (take l.key-index l.keys)
