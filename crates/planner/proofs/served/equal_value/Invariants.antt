use Rattle.std.proofs.Common.{◌≡◌, drop}
use Rattle.planner.specs.Served.{equal_value}
use Rattle.planner.proofs.served.equal_value.Given as goal

abbrev pub invariant-loop-cond : goal.invariant-loop-cond
invariant-loop-cond l = equal_value l.column (drop l.cond-index l.conds) ≡ equal_value l.column l.conds
