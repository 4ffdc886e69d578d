use Rattle.cat_core.specs.Finding.{entries}
use Rattle.cat_deps.specs.Reached.{AreDependent}
use Rattle.cat_deps.proofs.reaching.reaching.Given as goal

-- what was found is dependent
abbrev pub invariant-loop-turn : goal.invariant-loop-turn
invariant-loop-turn l = AreDependent (entries l.views) l.id l.found
