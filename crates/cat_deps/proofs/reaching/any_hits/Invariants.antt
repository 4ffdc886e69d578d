use Rattle.std.proofs.Common.{map, take}
use Rattle.query_tree.specs.Items.{relation_of}
use Rattle.cat_deps.specs.Reached.{Hits}
use Rattle.cat_deps.proofs.reaching.any_hits.Given as goal

-- none of the items so far names one
abbrev pub invariant-loop-item : goal.invariant-loop-item
invariant-loop-item l = Hits l.id l.found (map (λ item. (relation_of item).id) (take l.item-index l.items)) → ⊥
