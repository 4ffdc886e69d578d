use Rattle.std.proofs.Common.{refl, arith}
use Rattle.std.proofs.lemmas.List.{nil_from_length}
use Rattle.cat_undo.proofs.Undone.{back_last, back_empty}
use Rattle.cat_undo.proofs.store.CatStore.take_last_back.Goals as goal

pub returns-in-Some : goal.returns-in-Some
returns-in-Some c = back_last c.args.self.now _ c.in-Some.undo c.in-Some.ensures.items c.take_back.ensures.slots c.take_back.ensures.next_id refl refl

pub returns-in_default : goal.returns-in_default
returns-in_default c = back_empty c.args.self.now _ (nil_from_length c.args.self.now.log.items (omega (arith, c.in_default.ensures.cases))) (nil_from_length c.pop.new.self.items (omega (arith, c.in_default.ensures.cases))) refl
