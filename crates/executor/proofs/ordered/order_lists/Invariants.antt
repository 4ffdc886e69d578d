use Rattle.std.proofs.Common.{◌≡◌, drop}
use Rattle.executor.specs.Sorts.{order_from}
use Rattle.executor.proofs.ordered.order_lists.Given as goal

abbrev pub invariant-loop-at : goal.invariant-loop-at
invariant-loop-at l = order_from l.at (drop l.at l.keys) l.left l.right ≡ order_from 0 l.keys l.left l.right
