use Rattle.std.proofs.Common.{◌≡◌, [], drop}
use Rattle.expr_analysis.specs.Sights.{sight}
use Rattle.analyzer.specs.Clauses.{keys_from}
use Rattle.analyzer.proofs.clauses.keys.Given as goal

abbrev pub invariant-loop-key : goal.invariant-loop-key
invariant-loop-key l = keys_from (sight l.scope) l.found (drop l.key-index l.written) ≡ keys_from (sight l.scope) [] l.written
