use Rattle.std.proofs.Common.{◌≡◌, [], drop}
use Rattle.dml.specs.Rows.{updated_rows}
use Rattle.dml.proofs.update.new_rows.Given as goal

abbrev pub invariant-loop-slot : goal.invariant-loop-slot
invariant-loop-slot l = updated_rows l.rows l.update l.table l.params l.heaps (drop l.slot-index l.slots) ≡ updated_rows [] l.update l.table l.params l.heaps l.slots
