use Rattle.std.proofs.Common.{◌≡◌, ◌+◌, drop}
use Rattle.planner.specs.Served.{equal_columns}
use Rattle.planner.proofs.served.equal_columns.Given as goal

abbrev pub invariant-loop-place : goal.invariant-loop-place
invariant-loop-place l = l.place + equal_columns (drop l.place l.columns) l.conds ≡ equal_columns l.columns l.conds
