use Rattle.std.proofs.Common.{◌≡◌, drop}
use Rattle.planner.specs.Scans.{start_from, least_start}
use Rattle.planner.proofs.scans.least_start.Given as goal

abbrev pub invariant-loop-place : goal.invariant-loop-place
invariant-loop-place l = start_from l.scans l.delivers l.place l.least (drop l.place l.scans) ≡ least_start l.scans l.delivers
