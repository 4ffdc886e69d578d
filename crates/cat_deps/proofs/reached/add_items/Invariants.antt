use Rattle.std.proofs.Common.{take, map}
use Rattle.query_tree.specs.Items.{relation_of}
use Rattle.cat_deps.specs.Reached.{Adds}
use Rattle.cat_deps.proofs.reached.add_items.Given as goal

-- what the items so far name was added
abbrev pub invariant-loop-item : goal.invariant-loop-item
invariant-loop-item l = Adds (map (λ item. (relation_of item).id) (take l.item-index l.items)) l.fn.reached l.reached
