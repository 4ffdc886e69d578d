use Rattle.std.proofs.Common.{◌≡◌, drop}
use Rattle.executor.specs.Lists.{judged}
use Rattle.executor.proofs.conds.judged.Given as goal

abbrev pub invariant-loop-cond : goal.invariant-loop-cond
invariant-loop-cond l = judged (drop l.cond-index l.conds) l.row l.params ≡ judged l.conds l.row l.params
