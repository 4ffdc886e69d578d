use Rattle.std.proofs.Common.{◌≡◌, map, drop, true, false, Some, Ok}
use Rattle.query_tree.specs.Evaluation as spec
use Rattle.query_tree.specs.declared.target.CompareOp.TheVariants as compare_op
use Rattle.q_scalar.proofs.eval.+eval.Given as goal

-- the truth value so far, joined with the operands that are left
abbrev pub invariant-conjunction-loop-operand : goal.invariant-conjunction-loop-operand
invariant-conjunction-loop-operand l = spec.joined spec.both l.truth (map (λ operand. spec.value_of operand l.row l.params) (drop l.operand-index l.operands)) ≡ spec.joined spec.both (Some true) (map (λ operand. spec.value_of operand l.row l.params) l.operands)

abbrev pub invariant-disjunction-loop-operand : goal.invariant-disjunction-loop-operand
invariant-disjunction-loop-operand l = spec.joined spec.either l.truth (map (λ operand. spec.value_of operand l.row l.params) (drop l.operand-index l.operands)) ≡ spec.joined spec.either (Some false) (map (λ operand. spec.value_of operand l.row l.params) l.operands)

-- the truth value so far, joined with the comparisons that are left
abbrev pub invariant-is_member-loop-value : goal.invariant-is_member-loop-value
invariant-is_member-loop-value l = spec.joined spec.either l.truth (map (spec.comparison_outcome compare_op.Equal (Ok l.operand)) (map (λ value. spec.value_of value l.row l.params) (drop l.value-index l.values))) ≡ spec.joined spec.either (Some false) (map (spec.comparison_outcome compare_op.Equal (Ok l.operand)) (map (λ value. spec.value_of value l.row l.params) l.values))
