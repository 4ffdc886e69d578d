-- What a target tells of itself.
use Rattle.std.specs.Prelude.{Bool, true, false, ◌||◌, List}
use Rattle.std.specs.List.{list_any}
use Rattle.q_value.specs.declared.value.SqlType.{SqlType}
use Rattle.q_value.specs.declared.value.SqlType.TheVariants as kind
use Rattle.query_tree.specs.declared.target.Target.{Target, out-Target}
use Rattle.query_tree.specs.declared.target.Target.TheOpen.{Target-F}
use Rattle.query_tree.specs.declared.target.Target.TheFolds.{fold-Target}

-- the type that stands at the head of a target; that of a condition is boolean
abbrev pub head_kind : {A : Type 0} → Target-F A → SqlType
head_kind (Target-F.Const kind value) = kind
head_kind (Target-F.Param kind number) = kind
head_kind (Target-F.Column kind column) = kind
head_kind (Target-F.Aggregate kind aggregate) = kind
head_kind (Target-F.Arithmetic op kind left right) = kind
head_kind (Target-F.Negate kind operand) = kind
head_kind (Target-F.Compare op left right) = kind.Bool
head_kind (Target-F.IsNull operand negated) = kind.Bool
head_kind (Target-F.Not operand) = kind.Bool
head_kind (Target-F.And operands) = kind.Bool
head_kind (Target-F.Or operands) = kind.Bool
head_kind (Target-F.In operand values) = kind.Bool
head_kind (Target-F.Between operand low high) = kind.Bool

-- the type of a target
abbrev pub target_kind : Target → SqlType
target_kind target = head_kind (out-Target target)

-- one of the tests is true
abbrev pub any_of : List Bool → Bool
any_of tests = list_any (λ found. found) tests

abbrev pub has_fallible_node : Target-F Bool → Bool
has_fallible_node (Target-F.Const kind value) = false
has_fallible_node (Target-F.Param kind number) = false
has_fallible_node (Target-F.Column kind column) = false
has_fallible_node (Target-F.Aggregate kind aggregate) = false
has_fallible_node (Target-F.Arithmetic op kind left right) = true
has_fallible_node (Target-F.Negate kind operand) = true
has_fallible_node (Target-F.Compare op left right) = left || right
has_fallible_node (Target-F.IsNull operand negated) = operand
has_fallible_node (Target-F.Not operand) = operand
has_fallible_node (Target-F.And operands) = any_of operands
has_fallible_node (Target-F.Or operands) = any_of operands
has_fallible_node (Target-F.In operand values) = operand || any_of values
has_fallible_node (Target-F.Between operand low high) = operand || low || high

-- it holds arithmetic, which alone can fault
abbrev pub is_fallible : Target → Bool
is_fallible = fold-Target Bool has_fallible_node
