use Rattle.std.proofs.Common.{◌≡◌, drop}
use Rattle.planner.specs.Scans.{least_from, least_of}
use Rattle.planner.proofs.scans.least_of.Given as goal

abbrev pub invariant-loop-scan : goal.invariant-loop-scan
invariant-loop-scan l = least_from l.scan l.least (drop l.scan l.scans) ≡ least_of l.scans
