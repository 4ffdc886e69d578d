use Rattle.std.proofs.Common.{◌≡◌, ◌++◌, length}
use Rattle.executor.specs.Scans.{index_left}
use Rattle.executor.specs.Slots.{numbers_of}
use Rattle.executor.proofs.slots.index_numbers.Given as goal

abbrev pub invariant-loop-slots : goal.invariant-loop-slots
invariant-loop-slots l = l.slots.items ++ numbers_of (index_left l.stores l.snap l.params l.scan) ≡ numbers_of (index_left l.stores l.snap l.params l.initial.scan)

abbrev pub decreases-loop-slots : goal.decreases-loop-slots
decreases-loop-slots l = length (index_left l.stores l.snap l.params l.scan)
