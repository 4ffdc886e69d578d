use Rattle.std.proofs.Common.{arith, [], sym, ◌∙◌}
use Rattle.row_versions.proofs.Changed.{set_in_slot, in_slot_past}
use Rattle.row_versions.proofs.heap.Heap.take.Goals as goal

pub returns-then-at-len-clause-empty : goal.returns-then-at-len-clause-empty
returns-then-at-len-clause-empty c =
    rw (← c.self.view_is) (set_in_slot (λ _. []) (record { id = c.self.inside.id; slots = c.self.inside.slots.items }) c.args.at c.index_mut.result.now c.replace.new.dest (omega arith) c.index_mut.ensures.value (c.replace.ensures.after ∙ c.empty.ensures))

pub returns-else-at-len-clause-empty : goal.returns-else-at-len-clause-empty
returns-else-at-len-clause-empty c =
    rw (← c.self.view_is) (sym (in_slot_past (λ _. []) (record { id = c.self.inside.id; slots = c.self.inside.slots.items }) c.args.at (omega arith)))
