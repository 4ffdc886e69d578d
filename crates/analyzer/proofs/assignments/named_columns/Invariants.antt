use Rattle.std.proofs.Common.{◌≡◌, [], drop}
use Rattle.analyzer.specs.Assignments.{named_from}
use Rattle.analyzer.proofs.assignments.named_columns.Given as goal

abbrev pub invariant-loop-name : goal.invariant-loop-name
invariant-loop-name l = named_from l.columns l.found (drop l.name-index l.names) ≡ named_from l.columns [] l.names
