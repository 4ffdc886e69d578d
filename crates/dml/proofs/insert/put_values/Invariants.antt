use Rattle.std.proofs.Common.{◌≡◌, drop}
use Rattle.dml.specs.Rows.{put_from}
use Rattle.dml.proofs.insert.put_values.Given as goal

abbrev pub invariant-loop-at : goal.invariant-loop-at
invariant-loop-at l = put_from l.at l.row.items (drop l.at l.columns) l.values ≡ put_from 0 l.fn.row.items l.columns l.values
