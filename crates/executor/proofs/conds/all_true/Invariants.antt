use Rattle.std.proofs.Common.{◌≡◌, drop}
use Rattle.executor.specs.Lists.{all_true}
use Rattle.executor.proofs.conds.all_true.Given as goal

abbrev pub invariant-loop-cond : goal.invariant-loop-cond
invariant-loop-cond l = all_true (drop l.cond-index l.conds) l.row l.params ≡ all_true l.conds l.row l.params
