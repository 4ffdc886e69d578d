use Rattle.std.proofs.Common.{◌≡◌, map, drop}
use Rattle.query_tree.specs.declared.target.Target.{out-Target}
use Rattle.expr_analysis.specs.Same.{all_same, same_target, equals, equality, is_member_of, are_members}
use Rattle.expr_analysis.proofs.same.+same.Given as goal

abbrev pub invariant-same_targets-loop-target : goal.invariant-same_targets-loop-target
invariant-same_targets-loop-target l = all_same (map same_target (drop l.target-index l.left)) l.others ≡ all_same (map same_target l.left) l.fn.right

abbrev pub invariant-is_member_of-loop-value : goal.invariant-is_member_of-loop-value
invariant-is_member_of-loop-value l =
    all_same (map (equals (same_target l.a)) (map same_target (drop l.value-index l.value-items))) l.others
    ≡ is_member_of (out-Target l.fn.left) l.fn.operands

abbrev pub invariant-are_members-loop-operand : goal.invariant-are_members-loop-operand
invariant-are_members-loop-operand l =
    all_same (map same_target (drop l.operand-index l.operands)) (map (equality l.a) l.others)
    ≡ are_members l.fn.operands (out-Target l.fn.right)
