use Rattle.std.proofs.Common.{◌≡◌, [], drop}
use Rattle.expr_analysis.specs.Arguments.{arguments_from}
use Rattle.expr_analysis.proofs.arguments.read_arguments.Given as goal

abbrev pub invariant-loop-arg : goal.invariant-loop-arg
invariant-loop-arg l = arguments_from l.found (drop l.arg-index l.args) l.kinds l.state ≡ arguments_from [] l.args l.types l.fn.state
