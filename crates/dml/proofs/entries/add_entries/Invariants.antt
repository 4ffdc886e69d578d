use Rattle.std.proofs.Common.{◌≡◌}
use Rattle.dml.proofs.entries.add_entries.Given as goal

abbrev pub invariant-loop-at : goal.invariant-loop-at
invariant-loop-at l = l.stores.heaps ≡ l.fn.stores.heaps
