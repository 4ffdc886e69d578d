use Rattle.std.proofs.Common.{◌≡◌, drop}
use Rattle.analyzer.specs.Ordering.{is_listed}
use Rattle.analyzer.proofs.ordering.is_listed.Given as goal

abbrev pub invariant-loop-output : goal.invariant-loop-output
invariant-loop-output l = is_listed l.target (drop l.output-index l.outputs) ≡ is_listed l.target l.outputs
