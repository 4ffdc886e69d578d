use Rattle.std.proofs.Common.{◌≡◌, [], drop}
use Rattle.dml.specs.Rows.{returned_from}
use Rattle.dml.proofs.changed.rows_of.Given as goal

abbrev pub invariant-loop-slot : goal.invariant-loop-slot
invariant-loop-slot l = returned_from l.rows l.heaps l.table (drop l.slot-index l.slots) l.targets l.params ≡ returned_from [] l.heaps l.table l.slots l.targets l.params
