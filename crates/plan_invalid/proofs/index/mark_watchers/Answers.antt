use Rattle.std.proofs.Common.{◌∙◌}
use Rattle.std.proofs.lemmas.Map.Iter.{rest_all}
use Rattle.std.specs.Map.Iter.{deref}
use Rattle.plan_invalid.proofs.Slots.{marked_under-watchers}
use Rattle.plan_invalid.proofs.index.mark_watchers.Goals as goal

pub returns : goal.returns
returns c =
    let done = rest_all deref _ _ _ c.in-None.is c.next.ensures.steps in
    let all = c.into_iter-pair-iterator.ensures.into_iter_gives ∙ c.range-pair-items.ensures.between tt in
    let same = rw done at c.loop-pair.invariant.2 in
    same ∙ rw all (marked_under-watchers _ _ _ _ c.capacity-end.ensures.slots c.requires)
