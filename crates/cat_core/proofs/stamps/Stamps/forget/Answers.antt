use Rattle.std.proofs.Common.{◌≡◌, List, ap, sym, subst, rules}
use Rattle.std.specs.Prelude.{filter, is_some}
use Rattle.std.proofs.lemmas.Fn.{filter_same}
use Rattle.cat_core.specs.declared.stamps.StampRow.{StampRow}
use Rattle.cat_core.specs.Ages.{AreBetween}
use Rattle.cat_core.proofs.Ages.{between_filter}
use Rattle.cat_core.proofs.StampRows.{number}
use Rattle.cat_core.proofs.stamps.Stamps.forget.Goals as goal

kept : (c : goal.After-retain) → c.retain.new.self.items ≡ filter (λ (row : StampRow). is_some row.stamp) c.self.inside.rows.items
kept c = filter_same _ _ _ (λ x b f' k. search rules) _ _ c.retain.ensures.filtered

pub invariant_of-self : goal.invariant_of-self
invariant_of-self c = subst (λ (rows : List StampRow). AreBetween number 0 rows c.self.inside.next_id) (sym (kept c)) (between_filter number _ c.self.inside.rows.items 0 _ c.self.invariant)

pub returns : goal.returns
returns c = rw (← c.self.view_is) (ap (λ (rows : List StampRow). record { rows = rows; all = c.self.inside.all; next_id = c.self.inside.next_id }) (kept c))
