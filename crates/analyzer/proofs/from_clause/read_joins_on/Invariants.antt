use Rattle.std.proofs.Common.{◌≡◌, drop}
use Rattle.expr_analysis.specs.Sights.{sight}
use Rattle.analyzer.specs.FromClause.{joins_on}
use Rattle.analyzer.proofs.from_clause.read_joins_on.Given as goal

abbrev pub invariant-loop-join : goal.invariant-loop-join
invariant-loop-join l = joins_on (sight l.scope) l.allowed l.first l.part (drop l.join-index l.joins) l.state ≡ joins_on (sight l.scope) l.allowed l.first l.fn.part l.joins l.fn.state
