use Rattle.std.proofs.Common.{◌≡◌, drop, []}
use Rattle.std.specs.List.{list_all}
use Rattle.session_core.specs.Answers as spec
use Rattle.session_core.proofs.answers.all_let_pass.Given as goal

abbrev pub invariant-loop-cond : goal.invariant-loop-cond
invariant-loop-cond l = list_all (spec.lets_pass [] l.params) (drop l.cond-index l.conds) ≡ list_all (spec.lets_pass [] l.params) l.conds
