use Rattle.std.proofs.Common.{◌≡◌, ◌≤◌, length, drop}
use Rattle.row_index.specs.Order.{keys_cmp}
use Rattle.row_index.proofs.order.compare_keys.Given as goal

abbrev pub invariant-loop-place : goal.invariant-loop-place
invariant-loop-place l = (l.place ≤ length l.right) × (keys_cmp (drop l.place l.left) (drop l.place l.right) ≡ keys_cmp l.left l.right)
