use Rattle.std.proofs.Common.{◌≡◌, map, drop}
use Rattle.expr_analysis.specs.Undeclared.{has_undeclared, any_of}
use Rattle.expr_analysis.proofs.undeclared.+undeclared.Given as goal

abbrev pub invariant-any_undeclared-loop-part : goal.invariant-any_undeclared-loop-part
invariant-any_undeclared-loop-part l = any_of (map (has_undeclared l.declared) (drop l.part-index l.written)) ≡ any_of (map (has_undeclared l.declared) l.written)
