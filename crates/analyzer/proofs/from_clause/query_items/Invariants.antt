use Rattle.std.proofs.Common.{◌≡◌, [], length}
use Rattle.std.specs.Vec.Iter.{into_iter_items, into_iter_len}
use Rattle.analyzer.specs.FromClause.{query_items_from}
use Rattle.analyzer.proofs.from_clause.query_items.Given as goal

abbrev pub invariant-loop-item : goal.invariant-loop-item
invariant-loop-item l = (into_iter_len l.item-iterator ≡ length (into_iter_items l.item-iterator))
    × (query_items_from l.found (into_iter_items l.item-iterator) l.rest ≡ query_items_from [] l.fn.items l.fn.counts)
