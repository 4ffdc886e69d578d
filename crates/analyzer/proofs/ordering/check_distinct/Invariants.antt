use Rattle.std.proofs.Common.{◌≡◌, drop}
use Rattle.analyzer.specs.Ordering.{distinct_from}
use Rattle.analyzer.proofs.ordering.check_distinct.Given as goal

abbrev pub invariant-loop-key : goal.invariant-loop-key
invariant-loop-key l = distinct_from l.outputs (drop l.key-index l.order) ≡ distinct_from l.outputs l.order
