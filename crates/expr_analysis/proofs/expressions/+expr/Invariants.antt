use Rattle.std.proofs.Common.{◌≡◌, [], map, drop}
use Rattle.sql_tree.specs.declared.expr.Comparison.TheVariants.{Equal}
use Rattle.sql_tree.specs.declared.expr.Expr.{out-Expr}
use Rattle.expr_analysis.specs.Expressions.{meaning, operand, compared_anew, gathered, values_beside, others_equal_in}
use Rattle.expr_analysis.specs.Sights.{sight}
use Rattle.expr_analysis.proofs.expressions.+expr.Given as goal

abbrev pub invariant-operands-loop-part : goal.invariant-operands-loop-part
invariant-operands-loop-part l =
    gathered l.found (map (λ part. operand part (sight l.scope) l.allowed) (map meaning (drop l.part-index l.written))) l.state
    ≡ gathered [] (map (λ part. operand part (sight l.scope) l.allowed) (map meaning l.written)) l.fn.state

abbrev pub invariant-values_beside-loop-value : goal.invariant-values_beside-loop-value
invariant-values_beside-loop-value l =
    values_beside l.kind l.found (map meaning (drop l.value-index l.values)) (sight l.scope) l.allowed l.state
    ≡ values_beside l.kind [] (map meaning l.values) (sight l.scope) l.allowed l.fn.state

abbrev pub invariant-others_equal-loop-value : goal.invariant-others_equal-loop-value
invariant-others_equal-loop-value l =
    gathered l.found (map (λ value. compared_anew Equal l.refused (meaning l.inner) value (sight l.scope) l.allowed) (map meaning (drop l.value-index l.others))) l.state
    ≡ others_equal_in l.refused l.fn.one (out-Expr l.fn.written) (sight l.scope) l.allowed l.fn.state
