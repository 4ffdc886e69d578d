use Rattle.std.proofs.Common.{◌≡◌, [], drop}
use Rattle.analyzer.specs.Changes.{rows_from}
use Rattle.analyzer.proofs.changes.read_rows.Given as goal

abbrev pub invariant-loop-row : goal.invariant-loop-row
invariant-loop-row l = rows_from l.columns l.found (drop l.row-index l.written) l.state ≡ rows_from l.columns [] l.written l.fn.state
