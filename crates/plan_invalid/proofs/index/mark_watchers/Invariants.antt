use Rattle.std.proofs.Common.{◌≡◌}
use Rattle.plan_invalid.proofs.Slots.{marked_under}
use Rattle.plan_invalid.proofs.index.mark_watchers.Given as goal

-- what is left to mark leads to the same
abbrev pub invariant-loop-pair : goal.invariant-loop-pair
invariant-loop-pair l =
    (goal.iterator-loop-pair).can_next l.pair-iterator ×
    (goal.iterator-loop-pair).is_finite l.pair-iterator ×
    (marked_under l.sources.slots l.pair-iterator ≡ marked_under l.fn.sources.slots l.initial.pair-iterator)
