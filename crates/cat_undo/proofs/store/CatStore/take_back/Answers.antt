use Rattle.std.proofs.Common.{subst, arith}
use Rattle.cat_undo.specs.Store.{IsBack}
use Rattle.cat_undo.proofs.Undone.{back_zero, back_more}
use Rattle.cat_undo.proofs.store.CatStore.take_back.Goals as goal

pub loop-turn-init : goal.loop-turn-init
loop-turn-init c = back_zero c.args.self.now

pub loop-turn-preserved : goal.loop-turn-preserved
loop-turn-preserved c = back_more c.loop-turn._turn c.args.self.now c.loop-turn.self c.take_last_back.new.self c.loop-turn.invariant c.take_last_back.ensures

pub returns : goal.returns
returns c = subst (λ n. IsBack n c.args.self.now c.loop-turn.self) (omega (arith, c.loop-turn-test.false, c.loop-turn.auto._turn-end)) c.loop-turn.invariant
