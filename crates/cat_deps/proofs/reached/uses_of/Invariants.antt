use Rattle.cat_deps.proofs.Visits.{Visited}
use Rattle.cat_deps.proofs.reached.uses_of.Given as goal

abbrev pub invariant-loop-turn : goal.invariant-loop-turn
invariant-loop-turn l = Visited l.catalog.slots l.ids l.turn l.reached
