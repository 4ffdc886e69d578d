use Rattle.std.proofs.Common.{◌≡◌, [], drop}
use Rattle.analyzer.specs.Changes.{row_from}
use Rattle.analyzer.proofs.changes.read_row.Given as goal

abbrev pub invariant-loop-value : goal.invariant-loop-value
invariant-loop-value l = row_from l.found l.rest (drop l.value-index l.written) l.state ≡ row_from [] l.columns l.written l.fn.state
