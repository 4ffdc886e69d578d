use Rattle.std.proofs.Common.{List, map, subst, arith}
use Rattle.query_tree.specs.declared.query.Item.{Item}
use Rattle.query_tree.proofs.Members.{SameMembers, id_of, passed_more, passed_all}
use Rattle.query_tree.proofs.query.direct.Goals as goal

pub loop-item-preserved : goal.loop-item-preserved
loop-item-preserved c = passed_more _ _ c.item-item.result _ _ _ (omega arith) c.item-item.is c.relation.ensures c.in_ok-push.ensures.members c.loop-item.invariant

pub returns : goal.returns
returns c = subst (λ (items : List Item). SameMembers c.loop-item.ids (map id_of items)) c.as_slice-item-items.ensures (passed_all _ _ _ c.loop-item-test.false c.loop-item.invariant)
