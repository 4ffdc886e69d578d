use Rattle.std.proofs.Common.{◌∙◌, ◌+◌, ◌∷◌, sym, ap, drop, List, arith}
use Rattle.std.proofs.lemmas.List.{drop_more}
use Rattle.std.specs.Vec.Iter.{into_iter_items}
use Rattle.q_base.specs.declared.ids.SlotId.{SlotId}
use Rattle.q_value.specs.declared.value.Value.{Value}
use Rattle.dml.specs.Changes.{Stored, replaced_each, now}
use Rattle.dml.proofs.Steps.{both_change}
use Rattle.dml.proofs.Stored.{one_taken}
use Rattle.dml.proofs.update.store_rows.Goals as goal

pub loop-row-preserved : goal.loop-row-preserved
loop-row-preserved c =
    let step = c.in_ok-supersede.ensures in
    let before = c.loop-row.invariant in
    let steps = c.in-Some.ensures.steps in
    let rest = into_iter_items c.next.new.self in
    record {
      only = both_change c.args.table c.args.stores.now.heaps c.loop-row.stores.heaps c.supersede.new.stores.heaps before.only step.only;
      within = omega (arith, before.within);
      shows = ap (λ (stored : Stored). replaced_each rest (drop (c.loop-row.at + 1) c.args.slots.now) stored) step.shows
          ∙ sym (ap (λ (slots : List SlotId). replaced_each (c.in-Some.row ∷ rest) slots (now c.loop-row.stores.heaps c.args.table)) (drop_more c.args.slots.now c.loop-row.at _ (omega (arith, before.within))))
          ∙ sym (ap (λ (rows : List (List Value)). replaced_each rows (drop c.loop-row.at c.args.slots.now) (now c.loop-row.stores.heaps c.args.table)) steps.0)
          ∙ before.shows;
      counts = one_taken _ _ _ _ c.in-Some.row steps.0 before.counts steps.1;
    }
