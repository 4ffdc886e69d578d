use Rattle.std.proofs.Common.{◌≡◌, drop}
use Rattle.plan_source.specs.Same.{agree_from}
use Rattle.plan_source.proofs.same.agree.Given as goal

abbrev pub invariant-loop-at : goal.invariant-loop-at
invariant-loop-at l = agree_from l.at (drop l.at l.left) l.right ≡ agree_from 0 l.left l.right
