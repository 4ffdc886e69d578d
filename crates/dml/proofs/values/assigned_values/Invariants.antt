use Rattle.std.proofs.Common.{◌≡◌, [], drop}
use Rattle.dml.specs.Rows.{assigned_from}
use Rattle.dml.proofs.values.assigned_values.Given as goal

abbrev pub invariant-loop-assignment : goal.invariant-loop-assignment
invariant-loop-assignment l = assigned_from l.values (drop l.assignment-index l.assignments) l.row l.params ≡ assigned_from [] l.assignments l.row l.params
