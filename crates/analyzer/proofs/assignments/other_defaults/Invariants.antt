use Rattle.std.proofs.Common.{◌≡◌, [], drop}
use Rattle.analyzer.specs.Assignments.{defaults_from}
use Rattle.analyzer.proofs.assignments.other_defaults.Given as goal

abbrev pub invariant-loop-column : goal.invariant-loop-column
invariant-loop-column l = defaults_from l.given l.found (drop l.column-index l.columns) ≡ defaults_from l.given [] l.columns
