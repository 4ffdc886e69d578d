use Rattle.std.proofs.Common.{◌≡◌, [], drop}
use Rattle.analyzer.specs.Changes.{set_from}
use Rattle.analyzer.proofs.changes.read_set.Given as goal

abbrev pub invariant-loop-clause : goal.invariant-loop-clause
invariant-loop-clause l = set_from l.items l.found l.rest (drop l.clause-index l.written) l.state ≡ set_from l.items [] l.columns l.written l.fn.state
