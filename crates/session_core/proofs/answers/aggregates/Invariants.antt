use Rattle.std.proofs.Common.{◌≡◌, drop}
use Rattle.session_core.specs.Answers as spec
use Rattle.session_core.proofs.answers.aggregates.Given as goal

abbrev pub invariant-loop-aggregate : goal.invariant-loop-aggregate
invariant-loop-aggregate l = spec.each_from (spec.aggregated l.params l.there) l.row (drop l.aggregate-index l.written) ≡ spec.each (spec.aggregated l.params l.there) l.written
