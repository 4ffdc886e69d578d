use Rattle.std.proofs.Common.{◌≡◌, drop}
use Rattle.planner.specs.Scans.{left_by, rows_left}
use Rattle.planner.proofs.scans.rows_left.Given as goal

abbrev pub invariant-loop-cond : goal.invariant-loop-cond
invariant-loop-cond l = left_by l.left (drop l.cond-index l.conds) l.stats ≡ rows_left l.stats l.conds
