use Rattle.std.proofs.Common.{◌≡◌, take}
use Rattle.query_tree.proofs.+copy_query.Given as goal

abbrev pub invariant-query_copy::copy_items-loop-item : goal.invariant-query_copy::copy_items-loop-item
invariant-query_copy::copy_items-loop-item l = l.copies ≡ take l.item-index l.items
