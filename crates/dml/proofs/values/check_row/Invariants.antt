use Rattle.std.proofs.Common.{◌≡◌, drop}
use Rattle.dml.specs.Rows.{checked}
use Rattle.dml.proofs.values.check_row.Given as goal

abbrev pub invariant-loop-column : goal.invariant-loop-column
invariant-loop-column l = checked (drop l.column-index l.columns) l.row l.written ≡ checked l.columns l.row l.written
