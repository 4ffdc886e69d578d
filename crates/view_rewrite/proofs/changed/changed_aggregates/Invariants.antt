use Rattle.std.proofs.Common.{◌≡◌, map, take}
use Rattle.view_rewrite.specs.Changed.{changed_aggregate}
use Rattle.view_rewrite.proofs.changed.changed_aggregates.Given as goal

abbrev pub invariant-loop-aggregate : goal.invariant-loop-aggregate
invariant-loop-aggregate l = l.copies ≡ map (changed_aggregate l.change.meanings.now l.change.width) (take l.aggregate-index l.aggregates)
