use Rattle.std.proofs.Common.{◌≡◌, [], drop}
use Rattle.dml.specs.Rows.{values_from}
use Rattle.dml.proofs.values.values_of.Given as goal

abbrev pub invariant-loop-target : goal.invariant-loop-target
invariant-loop-target l = values_from l.values (drop l.target-index l.targets) l.row l.params ≡ values_from [] l.targets l.row l.params
