use Rattle.std.proofs.Common.{◌≡◌, drop}
use Rattle.analyzer.specs.Assignments.{check_known}
use Rattle.analyzer.proofs.assignments.check_known.Given as goal

abbrev pub invariant-loop-name : goal.invariant-loop-name
invariant-loop-name l = check_known l.changed (drop l.name-index l.names) ≡ check_known l.changed l.names
