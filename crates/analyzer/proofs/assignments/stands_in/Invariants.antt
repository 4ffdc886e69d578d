use Rattle.std.proofs.Common.{◌≡◌, drop}
use Rattle.analyzer.specs.Assignments.{stands_in}
use Rattle.analyzer.proofs.assignments.stands_in.Given as goal

abbrev pub invariant-loop-other : goal.invariant-loop-other
invariant-loop-other l = stands_in l.name (drop l.other-index l.names) ≡ stands_in l.name l.names
