use Rattle.std.proofs.Common.{◌∙◌, sym, arith}
use Rattle.cat_deps.proofs.Visits.{visited_first, visited_more, visited_all, past_end}
use Rattle.cat_deps.proofs.reached.uses_of.Goals as goal

pub loop-turn-init : goal.loop-turn-init
loop-turn-init c = visited_first c.args.catalog.now.slots c.args.ids.now c.new-reached.result c.add_all.new.reached c.new-reached.ensures.found c.in_ok-add_all.ensures

pub loop-turn-preserved : goal.loop-turn-preserved
loop-turn-preserved c = visited_more c.args.catalog.now.slots c.args.ids.now c.loop-turn.turn c.in-Some.id c.loop-turn.reached c.add_named.new.reached (sym c.at.ensures ∙ c.in-Some.is) c.loop-turn.invariant c.in_ok-add_named-in-Some.ensures

pub returns-in-None : goal.returns-in-None
returns-in-None c = visited_all c.args.catalog.now.slots c.args.ids.now c.loop-turn.turn c.loop-turn.reached c.loop-turn.invariant (past_end c.loop-turn.reached.order.items c.loop-turn.turn (sym c.at.ensures ∙ c.in-None.is))

pub returns : goal.returns
returns c = visited_all c.args.catalog.now.slots c.args.ids.now c.loop-turn.turn c.loop-turn.reached c.loop-turn.invariant (omega (arith, c.loop-turn-test.false))
