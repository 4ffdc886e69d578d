use Rattle.std.proofs.Common.{◌≡◌, ◌+◌, ◌*◌, length}
use Rattle.view_rewrite.specs.Replaced.{row_width}
use Rattle.view_rewrite.proofs.+placing.Given as goal

-- how deep views may stand below, and then how far a view is placed
abbrev pub decreases-placing::place_item : goal.decreases-placing::place_item
decreases-placing::place_item l = 8 * l.views.depth

abbrev pub decreases-placing::place_query : goal.decreases-placing::place_query
decreases-placing::place_query l = 8 * l.views.depth + 1

abbrev pub decreases-placing::pull_up : goal.decreases-placing::pull_up
decreases-placing::pull_up l = 8 * l.views.depth + 2

abbrev pub decreases-rewriting::block_of : goal.decreases-rewriting::block_of
decreases-rewriting::block_of l = 8 * l.views.depth + 2

abbrev pub decreases-placing::place_view : goal.decreases-placing::place_view
decreases-placing::place_view l = 8 * l.views.depth + 3

-- one meaning for each item that was placed, and the width of a row of all that were
abbrev pub invariant-placing::place_query-loop-item : goal.invariant-placing::place_query-loop-item
invariant-placing::place_query-loop-item l =
    (length l.meanings ≡ l.item-index) × (l.fn.placing.width ≡ row_width l.fn.placing.items → l.placing.width ≡ row_width l.placing.items)
