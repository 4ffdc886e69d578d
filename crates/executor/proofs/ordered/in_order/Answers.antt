use Rattle.std.proofs.Common.{rules}
use Rattle.executor.specs.Sorts.{order_rows}
use Rattle.executor.proofs.RowOrders.{ranks_rows}
use Rattle.executor.proofs.Sorted.{sorted_once}
use Rattle.executor.proofs.ordered.in_order.Goals as goal

pub returns : goal.returns
returns c = sorted_once (order_rows c.args.keys.now) (ranks_rows c.orders.ensures.sorts c.args.keys.now) _ _ c.in_ok-sort_by.ensures.sorted c.in_ok-sort_by.ensures.stable (λ a r q k. search rules)
