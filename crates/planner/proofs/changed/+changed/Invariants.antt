use Rattle.std.proofs.Common.{◌≡◌, map, take}
use Rattle.std.specs.Option.{option_copied}
use Rattle.planner.specs.Changed.{changed, changing}
use Rattle.planner.proofs.changed.+changed.Given as goal

abbrev pub invariant-changed_operands-loop-operand : goal.invariant-changed_operands-loop-operand
invariant-changed_operands-loop-operand l = l.copies ≡ map (changed (changing (option_copied l.change.params) l.change.offsets.now l.change.width)) (take l.operand-index l.operand-items)
