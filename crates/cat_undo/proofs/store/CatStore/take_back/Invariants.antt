use Rattle.cat_undo.specs.Store.{IsBack}
use Rattle.cat_undo.proofs.store.CatStore.take_back.Given as goal

abbrev pub invariant-loop-turn : goal.invariant-loop-turn
invariant-loop-turn l = IsBack l._turn l.fn.self l.self
