use Rattle.std.proofs.Common.{◌≡◌, map, drop}
use Rattle.expr_analysis.specs.Undeclared.{in_row, any_of}
use Rattle.expr_analysis.proofs.undeclared.in_rows.Given as goal

abbrev pub invariant-loop-row : goal.invariant-loop-row
invariant-loop-row l = any_of (map (in_row l.declared) (drop l.row-index l.written)) ≡ any_of (map (in_row l.declared) l.written)
