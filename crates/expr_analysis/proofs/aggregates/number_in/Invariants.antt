use Rattle.std.proofs.Common.{◌≡◌, drop}
use Rattle.expr_analysis.specs.Aggregates.{number_from}
use Rattle.expr_analysis.proofs.aggregates.number_in.Given as goal

abbrev pub invariant-loop-number : goal.invariant-loop-number
invariant-loop-number l = number_from l.number l.aggregate (drop l.number l.aggregates) ≡ number_from 0 l.aggregate l.aggregates
