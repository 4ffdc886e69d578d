use Rattle.std.proofs.Common.{◌≡◌, map, drop}
use Rattle.expr_analysis.specs.Undeclared.{in_output, any_of}
use Rattle.expr_analysis.proofs.undeclared.in_outputs.Given as goal

abbrev pub invariant-loop-item : goal.invariant-loop-item
invariant-loop-item l = any_of (map (in_output l.declared) (drop l.item-index l.written)) ≡ any_of (map (in_output l.declared) l.written)
