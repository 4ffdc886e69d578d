use Rattle.std.proofs.Common.{◌≡◌, drop}
use Rattle.analyzer.specs.Ordering.{output_named}
use Rattle.analyzer.proofs.ordering.output_named.Given as goal

abbrev pub invariant-loop-output : goal.invariant-loop-output
invariant-loop-output l = output_named l.name (drop l.output-index l.outputs) ≡ output_named l.name l.outputs
