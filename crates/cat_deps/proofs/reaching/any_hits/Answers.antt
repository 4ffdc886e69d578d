use Rattle.std.proofs.Common.{◌∙◌, sym, ap, subst, refl, map, List, arith}
use Rattle.std.proofs.lemmas.List.{take_all}
use Rattle.query_tree.specs.declared.query.Item.{Item}
use Rattle.query_tree.specs.declared.query.Relation.{Relation}
use Rattle.query_tree.specs.Items.{relation_of}
use Rattle.cat_deps.specs.Reached.{Hits}
use Rattle.cat_deps.proofs.Rounds.{no_hits, hit_found, hit_passed}
use Rattle.cat_deps.proofs.reaching.any_hits.Goals as goal

pub loop-item-init : goal.loop-item-init
loop-item-init c = no_hits c.args.id c.args.found.now

pub returns-then-is_hit : goal.returns-then-is_hit
returns-then-is_hit c = (λ yes. hit_found c.args.id c.args.found.now c.args.items.now c.loop-item.item-index c.item-item.result c.relation.result.now.id (omega arith) c.item-item.is (ap (λ (r : Relation). r.id) c.relation.ensures) (c.is_hit.ensures.0 c.if-is_hit.true), λ hits. refl)

pub loop-item-preserved : goal.loop-item-preserved
loop-item-preserved c = hit_passed c.args.id c.args.found.now c.args.items.now c.loop-item.item-index c.item-item.result c.relation.result.now.id (omega arith) c.item-item.is (ap (λ (r : Relation). r.id) c.relation.ensures) c.loop-item.invariant (λ hit. absurd (cc (sym c.if-is_hit.false ∙ c.is_hit.ensures.1 hit)))

pub returns : goal.returns
returns c = (λ yes. absurd (cc yes), λ hits. absurd (c.loop-item.invariant (subst (λ (items : List Item). Hits c.args.id c.args.found.now (map (λ (item : Item). (relation_of item).id) items)) (sym (take_all c.loop-item.item-index c.args.items.now (omega arith))) hits)))
