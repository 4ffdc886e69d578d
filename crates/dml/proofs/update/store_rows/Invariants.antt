use Rattle.std.proofs.Common.{◌≡◌, ◌≤◌, length, drop}
use Rattle.std.specs.Vec.Iter.{into_iter_items, into_iter_len}
use Rattle.dml.specs.Changes.{ChangesTable, replaced_each, now}
use Rattle.dml.proofs.update.store_rows.Given as goal

abbrev pub invariant-loop-row : goal.invariant-loop-row
invariant-loop-row l = record {
  only : ChangesTable l.table l.fn.stores.heaps l.stores.heaps;
  within : l.at ≤ length l.slots;
  shows : replaced_each (into_iter_items l.row-iterator) (drop l.at l.slots) (now l.stores.heaps l.table) ≡ replaced_each l.fn.rows l.fn.slots (now l.fn.stores.heaps l.table);
  counts : into_iter_len l.row-iterator ≡ length (into_iter_items l.row-iterator);
}
