use Rattle.std.proofs.Common.{◌≡◌, [], length}
use Rattle.executor.specs.Scans.{seq_left}
use Rattle.executor.specs.Slots.{slots_from}
use Rattle.executor.proofs.slots.seq_slots.Given as goal

abbrev pub invariant-loop-slot : goal.invariant-loop-slot
invariant-loop-slot l = slots_from l.slots (seq_left l.stores l.snap l.params l.scan) ≡ slots_from [] (seq_left l.stores l.snap l.params l.initial.scan)

abbrev pub decreases-loop-slot : goal.decreases-loop-slot
decreases-loop-slot l = length (seq_left l.stores l.snap l.params l.scan)
