use Rattle.std.proofs.Common.{◌≡◌, drop, []}
use Rattle.session_core.specs.Answers as spec
use Rattle.session_core.proofs.answers.all_pass.Given as goal

abbrev pub invariant-loop-cond : goal.invariant-loop-cond
invariant-loop-cond l = spec.all_pass [] l.params (drop l.cond-index l.conds) ≡ spec.all_pass [] l.params l.conds
