use Rattle.std.proofs.Common.{◌≡◌, drop}
use Rattle.session_core.specs.Answers as spec
use Rattle.session_core.proofs.answers.having.Given as goal

abbrev pub invariant-loop-cond : goal.invariant-loop-cond
invariant-loop-cond l = spec.having l.row l.params (drop l.cond-index l.conds) ≡ spec.having l.row l.params l.conds
