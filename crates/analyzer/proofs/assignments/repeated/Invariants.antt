use Rattle.std.proofs.Common.{◌≡◌, [], take, drop}
use Rattle.analyzer.specs.Assignments.{repeated_from}
use Rattle.analyzer.proofs.assignments.repeated.Given as goal

abbrev pub invariant-loop-place : goal.invariant-loop-place
invariant-loop-place l = repeated_from (take l.place l.names) (drop l.place l.names) ≡ repeated_from [] l.names
