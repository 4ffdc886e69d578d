use Rattle.std.proofs.Common.{◌≡◌, map, drop}
use Rattle.expr_analysis.specs.Calls.{calls, total}
use Rattle.expr_analysis.proofs.calls.+calls.Given as goal

abbrev pub invariant-calls_in_each-loop-part : goal.invariant-calls_in_each-loop-part
invariant-calls_in_each-loop-part l = total l.count (map calls (drop l.part-index l.written)) ≡ total 0 (map calls l.written)
