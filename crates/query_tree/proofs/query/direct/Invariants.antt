use Rattle.std.proofs.Common.{◌↔◌, Contains, map, take}
use Rattle.query_tree.proofs.Members.{id_of}
use Rattle.query_tree.proofs.query.direct.Given as goal

-- the ids are those of the items passed
abbrev pub invariant-loop-item : goal.invariant-loop-item
invariant-loop-item l = (id : _) → Contains l.ids id ↔ Contains (map id_of (take l.item-index l.item-items)) id
