use Rattle.std.proofs.Common.{◌≡◌, map, drop}
use Rattle.expr_analysis.specs.Calls.{calls_of_key, total}
use Rattle.expr_analysis.proofs.calls.calls_in_order.Given as goal

abbrev pub invariant-loop-key : goal.invariant-loop-key
invariant-loop-key l = total l.count (map calls_of_key (drop l.key-index l.written)) ≡ total 0 (map calls_of_key l.written)
