use Rattle.std.proofs.Common.{◌≡◌, ◌++◌, length}
use Rattle.std.specs.Vec.Iter.{into_iter_items, into_iter_len}
use Rattle.dml.specs.Changes.{ChangesTable, numbered, now}
use Rattle.dml.proofs.insert.store_rows.Given as goal

abbrev pub invariant-loop-row : goal.invariant-loop-row
invariant-loop-row l = record {
  only : ChangesTable l.table l.fn.stores.heaps l.stores.heaps;
  each : length l.slots.items ≡ length l.yielded;
  shows : now l.stores.heaps l.table ≡ now l.fn.stores.heaps l.table ++ numbered l.slots.items l.yielded;
  all : l.yielded ++ into_iter_items l.row-iterator ≡ l.fn.rows;
  counts : into_iter_len l.row-iterator ≡ length (into_iter_items l.row-iterator);
}
