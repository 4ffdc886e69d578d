use Rattle.std.proofs.Common.{◌≡◌, [], drop}
use Rattle.analyzer.specs.Queries.{types_from}
use Rattle.analyzer.proofs.queries.types_of.Given as goal

abbrev pub invariant-loop-fact : goal.invariant-loop-fact
invariant-loop-fact l = types_from l.types (drop l.fact-index l.known) ≡ types_from [] l.known
