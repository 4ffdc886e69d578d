use Rattle.std.proofs.Common.{List, sym, subst}
use Rattle.cat_core.specs.declared.stamps.StampRow.{StampRow}
use Rattle.cat_core.specs.Ages.{AreBetween}
use Rattle.cat_core.proofs.StampRows.{number, between_stamped}
use Rattle.cat_core.proofs.stamps.Stamps.give_at.Goals as goal

pub invariant_of-self : goal.invariant_of-self
invariant_of-self c = subst (λ (rows : List StampRow). AreBetween number 0 rows c.self.inside.next_id) (sym c.put_at.ensures) (between_stamped c.self.inside.rows.items _ _ 0 _ c.self.invariant)
