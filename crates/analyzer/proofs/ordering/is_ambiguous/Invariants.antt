use Rattle.std.proofs.Common.{◌≡◌, drop}
use Rattle.analyzer.specs.Ordering.{is_ambiguous}
use Rattle.analyzer.proofs.ordering.is_ambiguous.Given as goal

abbrev pub invariant-loop-output : goal.invariant-loop-output
invariant-loop-output l = is_ambiguous l.name l.target (drop l.output-index l.outputs) ≡ is_ambiguous l.name l.target l.outputs
