use Rattle.std.proofs.Common.{◌≡◌, ◌≤◌, length, drop}
use Rattle.planner.specs.Scans.{goes_by}
use Rattle.planner.proofs.scans.goes_by.Given as goal

abbrev pub invariant-loop-place : goal.invariant-loop-place
invariant-loop-place l = (l.place ≤ length l.columns) × (goes_by (drop l.place l.keys) l.item (drop l.place l.columns) ≡ goes_by l.keys l.item l.columns)
