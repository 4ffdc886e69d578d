use Rattle.std.proofs.Common.{◌∙◌, ◌++◌, ◌∷◌, [], sym, ap, length, List, arith}
use Rattle.std.proofs.lemmas.List.{append_assoc, length-append}
use Rattle.q_base.specs.declared.ids.SlotId.{SlotId}
use Rattle.dml.specs.Changes.{Stored, numbered, now}
use Rattle.dml.proofs.Steps.{both_change}
use Rattle.dml.proofs.Stored.{numbered_more, one_taken, taken_on}
use Rattle.dml.proofs.insert.store_rows.Goals as goal

pub loop-row-preserved : goal.loop-row-preserved
loop-row-preserved c =
    let step = c.in_ok-slot.ensures in
    let before = c.loop-row.invariant in
    let pushed = c.in_ok-push.ensures.items in
    let steps = c.in-Some.ensures.steps in
    let slots = c.loop-row.slots.items in
    record {
      only = both_change c.args.table c.args.stores.now.heaps c.loop-row.stores.heaps c.store_row.new.stores.heaps before.only step.only;
      each = omega (arith, ap (λ (xs : List SlotId). length xs) pushed, length-append slots (c.in_ok-slot.slot ∷ []), length-append c.loop-row.yielded (c.in-Some.row ∷ []), before.each);
      shows = step.shows
          ∙ ap (λ (stored : Stored). stored ++ (c.in_ok-slot.slot.0, c.in-Some.row) ∷ []) before.shows
          ∙ append_assoc (now c.args.stores.now.heaps c.args.table) (numbered slots c.loop-row.yielded) ((c.in_ok-slot.slot.0, c.in-Some.row) ∷ [])
          ∙ ap (λ (more : Stored). now c.args.stores.now.heaps c.args.table ++ more) (sym (numbered_more slots c.loop-row.yielded c.in_ok-slot.slot c.in-Some.row before.each))
          ∙ ap (λ (xs : List SlotId). now c.args.stores.now.heaps c.args.table ++ numbered xs (c.loop-row.yielded ++ c.in-Some.row ∷ [])) (sym pushed);
      all = taken_on c.loop-row.yielded _ _ c.args.rows c.in-Some.row steps.0 before.all;
      counts = one_taken _ _ _ _ c.in-Some.row steps.0 before.counts steps.1;
    }
