use Rattle.std.proofs.Common.{◌≡◌, map, drop}
use Rattle.expr_analysis.specs.Undeclared.{in_value, any_of}
use Rattle.expr_analysis.proofs.undeclared.in_row.Given as goal

abbrev pub invariant-loop-value : goal.invariant-loop-value
invariant-loop-value l = any_of (map (in_value l.declared) (drop l.value-index l.written)) ≡ any_of (map (in_value l.declared) l.written)
