use Rattle.std.proofs.Common.{arith, sym, ap, ◌∙◌}
use Rattle.row_versions.specs.Stored.{Stored, in_slot}
use Rattle.row_versions.proofs.Changed.{set_changed, changed_past}
use Rattle.row_versions.proofs.Positions.{position_of-set}
use Rattle.row_versions.proofs.tables.Tables.put.Goals as goal

pub returns-then-place-len : goal.returns-then-place-len
returns-then-place-len c =
    rw (← c.self.view_is) (set_changed (in_slot c.args.place.slot (λ _. c.args.slot)) c.self.inside.heaps.items c.args.place.table c.index_mut-heap.result.now c.put.new.self (omega arith) c.index_mut-heap.ensures.value c.put.ensures)

pub returns-else-place-len : goal.returns-else-place-len
returns-else-place-len c =
    rw (← c.self.view_is) (sym (changed_past (in_slot c.args.place.slot (λ _. c.args.slot)) c.self.inside.heaps.items c.args.place.table (omega arith)))

pub invariant_of-self : goal.invariant_of-self
invariant_of-self c = λ id.
    c.self.invariant id ∙ sym (position_of-set c.self.inside.heaps.items c.args.place.table c.index_mut-heap.result.now c.put.new.self id (omega arith) c.index_mut-heap.ensures.value (ap (λ (table : Stored). table.id) c.put.ensures))
