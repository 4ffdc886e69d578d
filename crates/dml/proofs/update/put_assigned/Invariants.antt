use Rattle.std.proofs.Common.{◌≡◌, drop}
use Rattle.dml.specs.Rows.{put_assigned_from}
use Rattle.dml.proofs.update.put_assigned.Given as goal

abbrev pub invariant-loop-at : goal.invariant-loop-at
invariant-loop-at l = put_assigned_from l.at l.row.items (drop l.at l.assignments) l.values ≡ put_assigned_from 0 l.fn.row.items l.assignments l.values
