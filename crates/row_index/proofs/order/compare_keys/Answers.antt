use Rattle.std.proofs.Common.{◌≡◌, length, drop, sym, ◌∙◌, subst, arith}
use Rattle.row_index.specs.Order.{keys_cmp}
use Rattle.row_index.proofs.Orders.{keys_at_end}
use Rattle.row_index.proofs.order.compare_keys.Goals as goal

pub returns : goal.returns
returns c =
    let end : c.loop-place.place ≡ length c.args.left.now = omega arith in
    let kept = subst (λ n. keys_cmp (drop n c.args.left.now) (drop n c.args.right.now) ≡ keys_cmp c.args.left.now c.args.right.now) end c.loop-place.invariant.1 in
    c.cmp.ensures ∙ sym (keys_at_end c.args.left.now c.args.right.now (omega arith)) ∙ kept
