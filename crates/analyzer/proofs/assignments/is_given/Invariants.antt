use Rattle.std.proofs.Common.{◌≡◌, drop}
use Rattle.analyzer.specs.Assignments.{is_given}
use Rattle.analyzer.proofs.assignments.is_given.Given as goal

abbrev pub invariant-loop-other : goal.invariant-loop-other
invariant-loop-other l = is_given l.column (drop l.other-index l.given) ≡ is_given l.column l.given
