use Rattle.std.proofs.Common.{◌≡◌, [], drop}
use Rattle.dml.specs.Rows.{inserted_rows}
use Rattle.dml.proofs.insert.new_rows.Given as goal

abbrev pub invariant-loop-targets : goal.invariant-loop-targets
invariant-loop-targets l = inserted_rows l.rows l.insert l.table l.params (drop l.targets-index l.insert.rows) ≡ inserted_rows [] l.insert l.table l.params l.insert.rows
