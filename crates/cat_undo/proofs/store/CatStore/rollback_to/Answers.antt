use Rattle.std.proofs.Common.{refl, ◌∙◌, ◌≡◌, subst, arith}
use Rattle.cat_undo.specs.Store.{IsBack, since}
use Rattle.cat_undo.proofs.Undone.{rolled_back, told_of}
use Rattle.cat_undo.proofs.store.CatStore.rollback_to.Goals as goal

pub returns-clause-state : goal.returns-clause-state
returns-clause-state g c =
    let count : c.saturating_sub-count.result ≡ since c.args.mark c.args.self.now = omega (arith, c.len.ensures, c.saturating_sub-count.ensures) in
    rolled_back c.args.mark c.args.self.now c.take_back.new.self _ (subst (λ n. IsBack n c.args.self.now c.take_back.new.self) count c.take_back.ensures) c.settle.ensures.state refl

pub returns-clause-told : goal.returns-clause-told
returns-clause-told g c =
    let count : c.saturating_sub-count.result ≡ since c.args.mark c.args.self.now = omega (arith, c.len.ensures, c.saturating_sub-count.ensures) in
    c.settle.ensures.told ∙ told_of g.T.Touched.hear g.T.Touched.hear_all c.args.mark c.args.self.now c.take_back.new.self c.args.marks.now (subst (λ n. IsBack n c.args.self.now c.take_back.new.self) count c.take_back.ensures)
