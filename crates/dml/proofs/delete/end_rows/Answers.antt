use Rattle.std.proofs.Common.{◌∙◌, ◌+◌, sym, ap, drop, List, arith}
use Rattle.std.proofs.lemmas.List.{drop_more}
use Rattle.q_base.specs.declared.ids.SlotId.{SlotId}
use Rattle.dml.specs.Changes.{without_all, now}
use Rattle.dml.proofs.Steps.{both_change}
use Rattle.dml.proofs.delete.end_rows.Goals as goal

pub loop-slot-preserved : goal.loop-slot-preserved
loop-slot-preserved c =
    let step = c.in_ok-end_row.ensures in
    record {
      only = both_change c.args.table c.args.heaps.now c.loop-slot.heaps c.end_row.new.heaps c.loop-slot.invariant.only step.only;
      left = ap (without_all (drop (c.loop-slot.slot-index + 1) c.args.slots.now)) step.shows
          ∙ sym (ap (λ (slots : List SlotId). without_all slots (now c.loop-slot.heaps c.args.table)) (drop_more c.args.slots.now c.loop-slot.slot-index _ (omega arith)))
          ∙ c.loop-slot.invariant.left;
    }
