use Rattle.std.proofs.Common.{◌≡◌, take}
use Rattle.expr_analysis.specs.Analysis.{known_types}
use Rattle.expr_analysis.proofs.state.KnownList.of_types.Given as goal

abbrev pub invariant-loop-kind : goal.invariant-loop-kind
invariant-loop-kind l = l.items.items ≡ known_types (take l.kind-index l.types)
