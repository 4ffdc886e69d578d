use Rattle.cat_core.specs.Finding.{entries}
use Rattle.cat_deps.proofs.Rounds.{Looked}
use Rattle.cat_deps.proofs.reaching.add_naming.Given as goal

abbrev pub invariant-loop-view : goal.invariant-loop-view
invariant-loop-view l = Looked (entries l.views) l.id l.view-index l.fn.found l.found
