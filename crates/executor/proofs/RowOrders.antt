-- The order of rows by their sort keys is total.
use Rattle.std.proofs.Common.{ℕ, Bool, List, [], ◌∷◌, suc}
use Rattle.std.specs.Cmp.{IsTotalOrder, IsStrictWeakOrder}
use Rattle.std.specs.Cmp.Derive.{point_total}
use Rattle.std.proofs.lemmas.Cmp.{then_total, on_total}
use Rattle.std.proofs.lemmas.List.Sorted.{ranks_by}
use Rattle.q_value.specs.declared.value.Value.{Value}
use Rattle.q_value.specs.Order.{sort_cmp}
use Rattle.query_tree.specs.declared.query.SortKey.{SortKey}
use Rattle.query_tree.specs.Evaluation.{value_at}
use Rattle.executor.specs.declared.ordered.Keyed.{Keyed}
use Rattle.executor.specs.Sorts.{order_at, order_from, comes_before}

order_total : ((desc nulls_first : Bool) → IsTotalOrder (sort_cmp desc nulls_first)) → (at : ℕ) (keys : List SortKey) → IsTotalOrder (order_from at keys)
unfolding order_at
order_total sorts at [] = point_total
order_total sorts at (key ∷ keys) = then_total (on_total (λ (row : List Value). value_at row at) (sorts key.desc key.nulls_first)) (order_total sorts (suc at) keys)

pub ranks_rows : ((desc nulls_first : Bool) → IsTotalOrder (sort_cmp desc nulls_first)) → (keys : List SortKey) → IsStrictWeakOrder (comes_before keys)
ranks_rows sorts keys = ranks_by (order_total sorts 0 keys) (λ (row : Keyed). row.keys)
