use Rattle.std.proofs.Common.{arith, [], get_or, sym, ap, ◌∙◌}
use Rattle.row_versions.specs.Stored.{Stored, in_slot}
use Rattle.row_versions.proofs.Changed.{set_changed, changed_past}
use Rattle.row_versions.proofs.Positions.{slots_at_read, slots_at_past}
use Rattle.row_versions.proofs.Positions.{position_of-set}
use Rattle.row_versions.proofs.tables.Tables.take.Goals as goal

pub returns-then-place-len-clause-versions : goal.returns-then-place-len-clause-versions
returns-then-place-len-clause-versions c =
    rw (← c.self.view_is) (c.take.ensures.versions ∙ ap (λ slots. get_or slots c.args.place.slot []) (sym (slots_at_read c.self.inside.heaps.items c.args.place.table c.index_mut-heap.result.now (omega arith) c.index_mut-heap.ensures.value)))

pub returns-then-place-len-clause-empty : goal.returns-then-place-len-clause-empty
returns-then-place-len-clause-empty c =
    rw (← c.self.view_is) (set_changed (in_slot c.args.place.slot (λ _. [])) c.self.inside.heaps.items c.args.place.table c.index_mut-heap.result.now c.take.new.self (omega arith) c.index_mut-heap.ensures.value c.take.ensures.empty)

pub returns-else-place-len-clause-versions : goal.returns-else-place-len-clause-versions
returns-else-place-len-clause-versions c =
    rw (← c.self.view_is) (c.empty.ensures ∙ ap (λ slots. get_or slots c.args.place.slot []) (sym (slots_at_past c.self.inside.heaps.items c.args.place.table (omega arith))))

pub returns-else-place-len-clause-empty : goal.returns-else-place-len-clause-empty
returns-else-place-len-clause-empty c =
    rw (← c.self.view_is) (sym (changed_past (in_slot c.args.place.slot (λ _. [])) c.self.inside.heaps.items c.args.place.table (omega arith)))

pub invariant_of-self : goal.invariant_of-self
invariant_of-self c = λ id.
    c.self.invariant id ∙ sym (position_of-set c.self.inside.heaps.items c.args.place.table c.index_mut-heap.result.now c.take.new.self id (omega arith) c.index_mut-heap.ensures.value (ap (λ (table : Stored). table.id) c.take.ensures.empty))
