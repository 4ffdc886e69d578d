use Rattle.std.proofs.Common.{◌≡◌, map, drop}
use Rattle.expr_analysis.specs.Calls.{calls_of_output, total}
use Rattle.expr_analysis.proofs.calls.calls_in_outputs.Given as goal

abbrev pub invariant-loop-item : goal.invariant-loop-item
invariant-loop-item l = total l.count (map calls_of_output (drop l.item-index l.written)) ≡ total 0 (map calls_of_output l.written)
