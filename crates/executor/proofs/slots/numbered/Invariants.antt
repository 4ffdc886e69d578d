use Rattle.std.proofs.Common.{◌≡◌, map, take}
use Rattle.q_base.specs.declared.ids.SlotId.{SlotId}
use Rattle.executor.proofs.slots.numbered.Given as goal

abbrev pub invariant-loop-number : goal.invariant-loop-number
invariant-loop-number l = map (λ (slot : SlotId). slot.0) l.slots ≡ take l.number-index l.numbers
