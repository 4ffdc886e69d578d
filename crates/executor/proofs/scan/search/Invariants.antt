use Rattle.std.proofs.Common.{◌≡◌, length}
use Rattle.row_versions.specs.State.{rows_from}
use Rattle.executor.specs.Lists.{kept}
use Rattle.executor.specs.Scans.{scan_of}
use Rattle.executor.proofs.scan.search.Given as goal

abbrev pub invariant-loop-slot : goal.invariant-loop-slot
invariant-loop-slot l = kept l.conds l.params (scan_of l.stores l.snap l.table l.at.0) ≡ kept l.conds l.params (scan_of l.stores l.snap l.table l.from)

abbrev pub decreases-loop-slot : goal.decreases-loop-slot
decreases-loop-slot l = length (rows_from l.stores.heaps l.table l.at.0 l.snap)
