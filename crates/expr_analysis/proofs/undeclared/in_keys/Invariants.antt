use Rattle.std.proofs.Common.{◌≡◌, map, drop}
use Rattle.expr_analysis.specs.Undeclared.{in_key, any_of}
use Rattle.expr_analysis.proofs.undeclared.in_keys.Given as goal

abbrev pub invariant-loop-key : goal.invariant-loop-key
invariant-loop-key l = any_of (map (in_key l.declared) (drop l.key-index l.written)) ≡ any_of (map (in_key l.declared) l.written)
