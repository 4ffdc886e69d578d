use Rattle.std.proofs.Common.{arith, ◌∷◌, [], ◌++◌, sym, ap, ◌∙◌}
use Rattle.row_versions.specs.Stored.{Stored}
use Rattle.row_versions.proofs.Changed.{set_changed, changed_past}
use Rattle.row_versions.proofs.Positions.{position_of-set}
use Rattle.row_versions.proofs.tables.Tables.push.Goals as goal

pub returns-in_ok-push-clause-ok : goal.returns-in_ok-push-clause-ok
returns-in_ok-push-clause-ok c =
    rw (← c.self.view_is) (set_changed (λ (table : Stored). record table { slots = table.slots ++ c.args.slot ∷ [] }) c.self.inside.heaps.items c.args.table c.index_mut-heap.result.now c.push.new.self (omega arith) c.index_mut-heap.ensures.value c.in_ok-push.ensures.ok)

pub returns-else-table-len-clause-ok : goal.returns-else-table-len-clause-ok
returns-else-table-len-clause-ok c =
    rw (← c.self.view_is) (sym (changed_past (λ (table : Stored). record table { slots = table.slots ++ c.args.slot ∷ [] }) c.self.inside.heaps.items c.args.table (omega arith)))

pub invariant_of-self : goal.invariant_of-self
invariant_of-self c = λ id.
    c.self.invariant id ∙ sym (position_of-set c.self.inside.heaps.items c.args.table c.index_mut-heap.result.now c.push.new.self id (omega arith) c.index_mut-heap.ensures.value (ap (λ (table : Stored). table.id) c.in_ok-push.ensures.ok))
