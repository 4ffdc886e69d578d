-- Which expressions are the same.
use Rattle.std.specs.Prelude.{Bool, true, false, not, ◌&&◌, ◌||◌, ◌==◌, List, [], ◌∷◌, length, map}
use Rattle.std.specs.Ordering.{int_eq}
use Rattle.std.specs.Str.{bytes_eq}
use denote.Enum.Bare.{sameb}
use Rattle.q_value.specs.declared.value.SqlType.{SqlType}
use Rattle.q_value.specs.contracts.value.SqlType as sql_type
use Rattle.q_value.specs.declared.value.Value.{Value}
use Rattle.q_value.specs.declared.value.Value.TheVariants as value
use Rattle.query_tree.specs.contracts.target.ArithmeticOp as arithmetic_op
use Rattle.query_tree.specs.contracts.target.CompareOp as compare_op
use Rattle.query_tree.specs.declared.target.CompareOp.{CompareOp}
use Rattle.query_tree.specs.declared.target.CompareOp.TheVariants as ordering
use Rattle.query_tree.specs.declared.query.Aggregate.{Aggregate}
use Rattle.query_tree.specs.declared.query.Aggregate.TheVariants as aggregate
use Rattle.query_tree.specs.declared.target.Target.{Target, out-Target}
use Rattle.query_tree.specs.declared.target.Target.TheVariants as target
use Rattle.query_tree.specs.declared.target.Target.TheOpen.{Target-F}
use Rattle.query_tree.specs.declared.target.Target.TheFolds.{fold-Target}

abbrev pub same_kind : SqlType → SqlType → Bool
same_kind = sameb sql_type.the_type

abbrev pub same_truth : Bool → Bool → Bool
same_truth true right = right
same_truth false right = not right

abbrev pub same_value : Value → Value → Bool
same_value value.Null value.Null = true
same_value (value.Int2 left) (value.Int2 right) = int_eq left right
same_value (value.Int4 left) (value.Int4 right) = int_eq left right
same_value (value.Int8 left) (value.Int8 right) = int_eq left right
same_value (value.Text left) (value.Text right) = bytes_eq left right
same_value (value.Bool left) (value.Bool right) = same_truth left right
same_value _ _ = false

-- the tests of a list of operands, each at the operand of its place, and as many of the one as of the other
abbrev pub all_same : List (Target → Bool) → List Target → Bool
all_same [] [] = true
all_same (test ∷ tests) (operand ∷ operands) = test operand && all_same tests operands
all_same _ _ = false

abbrev pub is_empty : {A : Type 0} → List A → Bool
is_empty xs = length xs == 0

-- exactly two operands, of which the one passes the first test and the other the second
abbrev pub range_in : (Target → Bool) → (Target → Bool) → List Target → Bool
range_in low high (first ∷ second ∷ rest) = low first && high second && is_empty rest
range_in low high _ = false

-- exactly two tests, which the two comparisons pass
abbrev pub tests_range : List (Target → Bool) → Target → Target → Bool
tests_range (first ∷ second ∷ rest) low high = first low && second high && is_empty rest
tests_range _ low high = false

-- a comparison with tests of its sides, beside another node
abbrev pub is_comparison : CompareOp → (Target → Bool) → (Target → Bool) → Target-F Target → Bool
is_comparison op a b (Target-F.Compare op2 a2 b2) = sameb compare_op.the_type op op2 && a a2 && b b2
is_comparison op a b _ = false

abbrev pub compares : CompareOp → (Target → Bool) → (Target → Bool) → Target → Bool
compares op a b other = is_comparison op a b (out-Target other)

-- an operand equals one of the values: the comparisons of which an IN is the OR
abbrev pub equals : (Target → Bool) → (Target → Bool) → Target → Bool
equals operand value = compares ordering.Equal operand value

abbrev pub equality : Target → Target → Target
equality operand value = target.Compare ordering.Equal operand value

-- one node, with the test of each operand in its place, beside another node; IN is the OR of its comparisons, and
-- BETWEEN the AND of its two
abbrev pub same_node : Target-F (Target → Bool) → Target-F Target → Bool
same_node (Target-F.Const kind value) (Target-F.Const kind2 value2) = same_kind kind kind2 && same_value value value2
same_node (Target-F.Param kind number) (Target-F.Param kind2 number2) = same_kind kind kind2 && number == number2
same_node (Target-F.Column kind column) (Target-F.Column kind2 column2) = column.item == column2.item && column.column.0 == column2.column.0
same_node (Target-F.Aggregate kind place) (Target-F.Aggregate kind2 place2) = place.number == place2.number
same_node (Target-F.Arithmetic op kind a b) (Target-F.Arithmetic op2 kind2 a2 b2) = sameb arithmetic_op.the_type op op2 && same_kind kind kind2 && a a2 && b b2
same_node (Target-F.Negate kind operand) (Target-F.Negate kind2 operand2) = same_kind kind kind2 && operand operand2
same_node (Target-F.Compare op a b) (Target-F.Compare op2 a2 b2) = sameb compare_op.the_type op op2 && a a2 && b b2
same_node (Target-F.IsNull operand negated) (Target-F.IsNull operand2 negated2) = same_truth negated negated2 && operand operand2
same_node (Target-F.Not operand) (Target-F.Not operand2) = operand operand2
same_node (Target-F.And operands) (Target-F.And operands2) = all_same operands operands2
same_node (Target-F.Or operands) (Target-F.Or operands2) = all_same operands operands2
same_node (Target-F.In operand values) (Target-F.In operand2 values2) = all_same values values2 && (is_empty values || operand operand2)
same_node (Target-F.In operand values) (Target-F.Or operands2) = all_same (map (equals operand) values) operands2
same_node (Target-F.Or operands) (Target-F.In operand2 values2) = all_same operands (map (equality operand2) values2)
same_node (Target-F.Between operand low high) (Target-F.Between operand2 low2 high2) = operand operand2 && low low2 && high high2
same_node (Target-F.Between operand low high) (Target-F.And operands2) = range_in (compares ordering.GreaterEqual operand low) (compares ordering.LessEqual operand high) operands2
same_node (Target-F.And operands) (Target-F.Between operand2 low2 high2) = tests_range operands (target.Compare ordering.GreaterEqual operand2 low2) (target.Compare ordering.LessEqual operand2 high2)
same_node _ _ = false

-- two targets are one expression
abbrev pub same_target : Target → Target → Bool
same_target = fold-Target (Target → Bool) (λ layer other. same_node layer (out-Target other))

-- ---- the cases where one side alone is an IN or a BETWEEN

abbrev pub is_member_of : Target-F Target → List Target → Bool
is_member_of (Target-F.In operand values) operands = all_same (map (equals (same_target operand)) (map same_target values)) operands
is_member_of _ operands = false

abbrev pub are_members : List Target → Target-F Target → Bool
are_members operands (Target-F.In operand values) = all_same (map same_target operands) (map (equality operand) values)
are_members operands _ = false

abbrev pub begins_with : Target-F Target → Target → Bool
begins_with (Target-F.Between operand low high) other = compares ordering.GreaterEqual (same_target operand) (same_target low) other
begins_with _ other = false

abbrev pub ends_with : Target-F Target → Target → Bool
ends_with (Target-F.Between operand low high) other = compares ordering.LessEqual (same_target operand) (same_target high) other
ends_with _ other = false

abbrev pub is_range : Target-F Target → List Target → Bool
is_range left operands = range_in (begins_with left) (ends_with left) operands

abbrev pub is_begin_of : Target → Target-F Target → Bool
is_begin_of left (Target-F.Between operand low high) = same_target left (target.Compare ordering.GreaterEqual operand low)
is_begin_of left _ = false

abbrev pub is_end_of : Target → Target-F Target → Bool
is_end_of left (Target-F.Between operand low high) = same_target left (target.Compare ordering.LessEqual operand high)
is_end_of left _ = false

abbrev pub are_range : List Target → Target-F Target → Bool
are_range operands right = range_in (λ left. is_begin_of left right) (λ left. is_end_of left right) operands

abbrev pub same_aggregate : Aggregate → Aggregate → Bool
same_aggregate aggregate.CountRows aggregate.CountRows = true
same_aggregate (aggregate.Count left) (aggregate.Count right) = same_target left right
same_aggregate (aggregate.Sum left) (aggregate.Sum right) = same_target left right
same_aggregate (aggregate.Min left) (aggregate.Min right) = same_target left right
same_aggregate (aggregate.Max left) (aggregate.Max right) = same_target left right
same_aggregate _ _ = false
