use Rattle.std.proofs.Common.{◌≡◌, [], drop}
use Rattle.expr_analysis.specs.Sights.{sight}
use Rattle.analyzer.specs.Ordering.{sort_keys_from}
use Rattle.analyzer.proofs.ordering.sort_keys.Given as goal

abbrev pub invariant-loop-key : goal.invariant-loop-key
invariant-loop-key l = sort_keys_from (sight l.scope) l.place l.outputs l.found (drop l.key-index l.written) l.state ≡ sort_keys_from (sight l.scope) l.place l.outputs [] l.written l.fn.state
