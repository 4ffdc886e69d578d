use Rattle.std.proofs.Common.{◌≡◌, drop}
use Rattle.cat_deps.specs.Naming as spec
use Rattle.cat_deps.proofs.naming.any_aggregate.Given as goal

abbrev pub invariant-loop-aggregate : goal.invariant-loop-aggregate
invariant-loop-aggregate l = spec.any_aggregate l.named l.items (drop l.aggregate-index l.aggregates) ≡ spec.any_aggregate l.named l.items l.aggregates
