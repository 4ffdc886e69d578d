use Rattle.std.proofs.Common.{◌≡◌, drop}
use Rattle.query_tree.specs.Evaluation.{value_of}
use Rattle.session_core.specs.Answers as spec
use Rattle.session_core.proofs.answers.values_of.Given as goal

abbrev pub invariant-loop-target : goal.invariant-loop-target
invariant-loop-target l = spec.each_from (λ target. value_of target l.row l.params) l.values (drop l.target-index l.targets) ≡ spec.each (λ target. value_of target l.row l.params) l.targets
