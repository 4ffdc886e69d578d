use Rattle.std.proofs.Common.{arith, sym, refl}
use Rattle.row_versions.proofs.Changed.{set_in_slot, in_slot_past}
use Rattle.row_versions.proofs.heap.Heap.put.Goals as goal

pub returns-then-at-len : goal.returns-then-at-len
returns-then-at-len c =
    rw (← c.self.view_is) (set_in_slot (λ _. c.args.slot) (record { id = c.self.inside.id; slots = c.self.inside.slots.items }) c.args.at c.index_mut.result.now c.args.slot (omega arith) c.index_mut.ensures.value refl)

pub returns-else-at-len : goal.returns-else-at-len
returns-else-at-len c =
    rw (← c.self.view_is) (sym (in_slot_past (λ _. c.args.slot) (record { id = c.self.inside.id; slots = c.self.inside.slots.items }) c.args.at (omega arith)))
