use Rattle.std.proofs.Common.{◌≡◌, map, drop}
use Rattle.expr_analysis.specs.Undeclared.{in_join, any_of}
use Rattle.expr_analysis.proofs.undeclared.in_joins.Given as goal

abbrev pub invariant-loop-join : goal.invariant-loop-join
invariant-loop-join l = any_of (map (in_join l.declared) (drop l.join-index l.written)) ≡ any_of (map (in_join l.declared) l.written)
