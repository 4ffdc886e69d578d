use Rattle.std.proofs.Common.{◌≡◌, drop}
use Rattle.planner.specs.Scans.{found_by, rows_found}
use Rattle.planner.proofs.scans.rows_found.Given as goal

abbrev pub invariant-loop-cond : goal.invariant-loop-cond
invariant-loop-cond l = found_by l.found (drop l.cond-index l.conds) l.columns l.equal l.stats ≡ rows_found l.stats l.conds l.columns l.equal
