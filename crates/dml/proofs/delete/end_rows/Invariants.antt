use Rattle.std.proofs.Common.{◌≡◌, drop}
use Rattle.dml.specs.Changes.{ChangesTable, without_all, now}
use Rattle.dml.proofs.delete.end_rows.Given as goal

abbrev pub invariant-loop-slot : goal.invariant-loop-slot
invariant-loop-slot l = record {
  only : ChangesTable l.table l.fn.heaps l.heaps;
  left : without_all (drop l.slot-index l.slots) (now l.heaps l.table) ≡ without_all l.slots (now l.fn.heaps l.table);
}
