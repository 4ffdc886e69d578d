use Rattle.std.proofs.Common.{◌≡◌, map, drop}
use Rattle.expr_analysis.specs.Undeclared.{in_chain, any_of}
use Rattle.expr_analysis.proofs.undeclared.in_chains.Given as goal

abbrev pub invariant-loop-chain : goal.invariant-loop-chain
invariant-loop-chain l = any_of (map (in_chain l.declared) (drop l.chain-index l.written)) ≡ any_of (map (in_chain l.declared) l.written)
