use Rattle.std.proofs.Common.{◌≡◌, drop}
use Rattle.expr_analysis.specs.Sights.{sight}
use Rattle.analyzer.specs.FromClause.{on_from, no_conds}
use Rattle.analyzer.proofs.from_clause.read_on.Given as goal

abbrev pub invariant-loop-chain : goal.invariant-loop-chain
invariant-loop-chain l = on_from (sight l.scope) l.allowed l.part (drop l.chain-index l.from) l.state ≡ on_from (sight l.scope) l.allowed no_conds l.from l.fn.state
