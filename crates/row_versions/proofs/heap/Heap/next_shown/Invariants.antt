use Rattle.std.proofs.Common.{◌≡◌, drop}
use Rattle.row_versions.specs.Stored.{first_of, rows_in}
use Rattle.row_versions.proofs.heap.Heap.next_shown.Given as goal

-- the slots so far show nothing
abbrev pub invariant-loop-at : goal.invariant-loop-at
invariant-loop-at l = first_of (rows_in l.at (drop l.at l.self.slots) l.moment) ≡ first_of (rows_in l.from (drop l.from l.self.slots) l.moment)
