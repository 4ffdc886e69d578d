use Rattle.std.proofs.Common.{◌≡◌, [], drop}
use Rattle.expr_analysis.specs.Types.{types_from}
use Rattle.expr_analysis.proofs.types.named_types.Given as goal

abbrev pub invariant-loop-name : goal.invariant-loop-name
invariant-loop-name l = types_from l.types (drop l.name-index l.names) ≡ types_from [] l.names
