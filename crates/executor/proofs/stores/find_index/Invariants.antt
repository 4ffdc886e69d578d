use Rattle.std.proofs.Common.{◌≡◌, drop}
use Rattle.executor.specs.Scans.{index_of}
use Rattle.executor.proofs.stores.find_index.Given as goal

abbrev pub invariant-loop-row : goal.invariant-loop-row
invariant-loop-row l = index_of l.id (drop l.row-index l.rows) ≡ index_of l.id l.rows
