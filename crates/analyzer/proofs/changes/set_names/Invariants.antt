use Rattle.std.proofs.Common.{◌≡◌, take}
use Rattle.analyzer.specs.Changes.{set_names}
use Rattle.analyzer.proofs.changes.set_names.Given as goal

abbrev pub invariant-loop-clause : goal.invariant-loop-clause
invariant-loop-clause l = l.names ≡ set_names (take l.clause-index l.written)
