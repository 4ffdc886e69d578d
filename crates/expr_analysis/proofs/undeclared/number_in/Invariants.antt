use Rattle.std.proofs.Common.{◌≡◌, drop}
use Rattle.expr_analysis.specs.Undeclared.{number_from}
use Rattle.expr_analysis.proofs.undeclared.number_in.Given as goal

abbrev pub invariant-loop-digit : goal.invariant-loop-digit
invariant-loop-digit l = number_from l.number (drop l.digit-index l.digit-items) ≡ number_from 0 l.digits
