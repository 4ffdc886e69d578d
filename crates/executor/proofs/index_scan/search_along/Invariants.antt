use Rattle.std.proofs.Common.{◌≡◌, length}
use Rattle.std.specs.Option.{option_copied}
use Rattle.row_index.specs.Ranges.{entries_past}
use Rattle.executor.specs.Scans.{entries_left}
use Rattle.executor.proofs.index_scan.search_along.Given as goal

abbrev pub invariant-loop-entry : goal.invariant-loop-entry
invariant-loop-entry l = entries_left l.stores l.snap l.params l.index l.scan (option_copied l.last) ≡ entries_left l.stores l.snap l.params l.index l.scan l.scan.last

abbrev pub decreases-loop-entry : goal.decreases-loop-entry
decreases-loop-entry l = length (entries_past l.scan.range (option_copied l.last) l.index.index)
