use Rattle.std.proofs.Common.{◌≡◌, drop}
use Rattle.analyzer.specs.Queries.{check_params_from}
use Rattle.analyzer.proofs.queries.check_params.Given as goal

abbrev pub invariant-loop-place : goal.invariant-loop-place
invariant-loop-place l = check_params_from l.place (drop l.place l.known) ≡ check_params_from 0 l.known
