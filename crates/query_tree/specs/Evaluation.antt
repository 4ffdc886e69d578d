-- The value of a target over a row and the values of the parameters.
use Rattle.std.specs.Prelude.{ℕ, zero, suc, ℤ, pos, ◌+ℤ◌, ◌-ℤ◌, ◌*ℤ◌, neg_ℤ, int_div, Bool, true, false, not, Option, None, Some, Result, Ok, Err, List, [], ◌∷◌, map, if◌then◌else◌, slice_get, unwrap_or, option_map}
use Rattle.std.specs.declared.cmp.Ordering.{Ordering}
use Rattle.std.specs.Ordering.{int_eq, is_eq, is_ne, is_lt, is_le, is_gt, is_ge}
use Rattle.q_base.specs.declared.code.Code.{Code}
use Rattle.q_base.specs.declared.code.Code.TheVariants.{SmallintOutOfRange, IntegerOutOfRange, BigintOutOfRange, DivisionByZero}
use Rattle.q_value.specs.declared.value.SqlType.{SqlType}
use Rattle.q_value.specs.declared.value.SqlType.TheVariants as kind
use Rattle.q_value.specs.declared.value.Value.{Value}
use Rattle.q_value.specs.declared.value.Value.TheVariants as value
use Rattle.q_value.specs.Values.{number_of, integer_in}
use Rattle.q_value.specs.Order.{compared}
use Rattle.query_tree.specs.declared.target.CompareOp.{CompareOp}
use Rattle.query_tree.specs.declared.target.CompareOp.TheVariants as compare
use Rattle.query_tree.specs.declared.target.ArithmeticOp.{ArithmeticOp}
use Rattle.query_tree.specs.declared.target.ArithmeticOp.TheVariants as arithmetic
use Rattle.query_tree.specs.declared.target.Target.{Target}
use Rattle.query_tree.specs.declared.target.Target.TheOpen.{Target-F}
use Rattle.query_tree.specs.declared.target.Target.TheFolds.{fold-Target}

-- a fault stands, and a value is gone on with
abbrev pub then_with : {A B : Type 0} → Result A Code → (A → Result B Code) → Result B Code
then_with (Err code) next = Err code
then_with (Ok found) next = next found

-- the value at a place of a row; there is a null past its end
abbrev pub value_at : List Value → ℕ → Value
value_at row place = unwrap_or (slice_get row place) value.Null

-- the value of $n
abbrev pub param_value : List Value → ℕ → Value
param_value params zero = value.Null
param_value params (suc place) = value_at params place

-- a truth value as a value, unknown as null
abbrev pub truth_value : Option Bool → Value
truth_value None = value.Null
truth_value (Some truth) = value.Bool truth

-- a value as a truth value, where what is no boolean counts as unknown
abbrev pub truth_in : Value → Option Bool
truth_in (value.Bool truth) = Some truth
truth_in other = None

-- what a comparison makes of the order of its sides
abbrev pub holds : CompareOp → Ordering → Bool
holds compare.Equal order = is_eq order
holds compare.NotEqual order = is_ne order
holds compare.Less order = is_lt order
holds compare.LessEqual order = is_le order
holds compare.Greater order = is_gt order
holds compare.GreaterEqual order = is_ge order

-- a comparison of two values, unknown where one is null
abbrev pub comparison : CompareOp → Value → Value → Option Bool
comparison op left right = option_map (holds op) (compared left right)

-- the fault of a number that no value of the type has
abbrev pub range_fault : SqlType → Code
range_fault kind.Int2 = SmallintOutOfRange
range_fault kind.Int4 = IntegerOutOfRange
range_fault kind.Int8 = BigintOutOfRange
range_fault kind.Text = BigintOutOfRange
range_fault kind.Bool = BigintOutOfRange

-- the value, or a fault where there is none
abbrev pub or_fault : Code → Option Value → Result Value Code
or_fault code None = Err code
or_fault code (Some found) = Ok found

-- a number as a value of a type
abbrev pub as_integer : SqlType → ℤ → Result Value Code
as_integer kind number = or_fault (range_fault kind) (integer_in kind number)

-- an operator over two numbers; a quotient drops its fraction
abbrev pub computed_number : ArithmeticOp → SqlType → ℤ → ℤ → Result Value Code
computed_number arithmetic.Add kind left right = as_integer kind (left +ℤ right)
computed_number arithmetic.Subtract kind left right = as_integer kind (left -ℤ right)
computed_number arithmetic.Multiply kind left right = as_integer kind (left *ℤ right)
computed_number arithmetic.Divide kind left right = if int_eq right (pos 0) then Err DivisionByZero else as_integer kind (int_div left right)

-- an operator where both numbers are there; else it gives null
abbrev pub computed_where_both : ArithmeticOp → SqlType → Option ℤ → Option ℤ → Result Value Code
computed_where_both op kind (Some left) (Some right) = computed_number op kind left right
computed_where_both op kind None right = Ok value.Null
computed_where_both op kind (Some left) None = Ok value.Null

-- an operator over two values; a null operand gives null
abbrev pub computed : ArithmeticOp → SqlType → Value → Value → Result Value Code
computed op kind left right = computed_where_both op kind (number_of left) (number_of right)

abbrev pub negated_number : SqlType → Option ℤ → Result Value Code
negated_number kind None = Ok value.Null
negated_number kind (Some number) = as_integer kind (neg_ℤ number)

-- unary minus; of null it is null
abbrev pub negated : SqlType → Value → Result Value Code
negated kind operand = negated_number kind (number_of operand)

abbrev pub is_null : Value → Bool
is_null value.Null = true
is_null other = false

-- IS NULL, or IS NOT NULL
abbrev pub null_test : Bool → Value → Bool
null_test true operand = not (is_null operand)
null_test false operand = is_null operand

-- AND, OR and NOT with three truth values
abbrev pub both : Option Bool → Option Bool → Option Bool
both (Some false) right = Some false
both left (Some false) = Some false
both (Some true) (Some true) = Some true
both left right = None

abbrev pub either : Option Bool → Option Bool → Option Bool
either (Some true) right = Some true
either left (Some true) = Some true
either (Some false) (Some false) = Some false
either left right = None

abbrev pub negation : Option Bool → Option Bool
negation truth = option_map not truth

-- a truth value joined with the operands after it, from left to right; the first fault stands
abbrev pub joined : (Option Bool → Option Bool → Option Bool) → Option Bool → List (Result Value Code) → Result (Option Bool) Code
joined connective truth [] = Ok truth
joined connective truth (operand ∷ operands) = then_with operand (λ found. joined connective (connective truth (truth_in found)) operands)

-- a truth value or a fault as a value or a fault
abbrev pub truth_outcome : Result (Option Bool) Code → Result Value Code
truth_outcome truth = then_with truth (λ found. Ok (truth_value found))

-- AND and OR of all operands
abbrev pub conjunction : List (Result Value Code) → Result Value Code
conjunction operands = truth_outcome (joined both (Some true) operands)

abbrev pub disjunction : List (Result Value Code) → Result Value Code
disjunction operands = truth_outcome (joined either (Some false) operands)

-- a comparison of two outcomes; the left side's fault comes first
abbrev pub comparison_outcome : CompareOp → Result Value Code → Result Value Code → Result Value Code
comparison_outcome op left right = then_with left (λ l. then_with right (λ r. Ok (truth_value (comparison op l r))))

-- a value is one of the others: the OR of its comparisons with each of them
abbrev pub membership : List (Result Value Code) → Value → Result Value Code
membership values found = disjunction (map (comparison_outcome compare.Equal (Ok found)) values)

-- one node, with the value or the fault of each operand in its place; IN is the OR of comparisons of the
-- operand's value with each of the others, and BETWEEN the AND of two comparisons
abbrev pub node_value : List Value → List Value → Target-F (Result Value Code) → Result Value Code
node_value row params (Target-F.Const kind constant) = Ok constant
node_value row params (Target-F.Param kind number) = Ok (param_value params number)
node_value row params (Target-F.Column kind column) = Ok (value_at row column.place)
node_value row params (Target-F.Aggregate kind aggregate) = Ok (value_at row aggregate.place)
node_value row params (Target-F.Arithmetic op kind left right) = then_with left (λ l. then_with right (λ r. computed op kind l r))
node_value row params (Target-F.Negate kind operand) = then_with operand (λ found. negated kind found)
node_value row params (Target-F.Compare op left right) = comparison_outcome op left right
node_value row params (Target-F.IsNull operand negated) = then_with operand (λ found. Ok (value.Bool (null_test negated found)))
node_value row params (Target-F.Not operand) = then_with operand (λ found. Ok (truth_value (negation (truth_in found))))
node_value row params (Target-F.And operands) = conjunction operands
node_value row params (Target-F.Or operands) = disjunction operands
node_value row params (Target-F.In operand values) = then_with operand (membership values)
node_value row params (Target-F.Between operand low high) = conjunction (comparison_outcome compare.GreaterEqual operand low ∷ comparison_outcome compare.LessEqual operand high ∷ [])

-- the value of a target, or its first fault; operands go from left to right, all of them
abbrev pub value_of : Target → List Value → List Value → Result Value Code
value_of target row params = fold-Target (Result Value Code) (node_value row params) target

-- the truth value of a value, or its fault
abbrev pub truth_or_fault : Result Value Code → Result (Option Bool) Code
truth_or_fault outcome = then_with outcome (λ found. Ok (truth_in found))

-- a truth value, where a fault counts as unknown
abbrev pub known : Result (Option Bool) Code → Option Bool
known (Ok truth) = truth
known (Err code) = None

-- a condition is true, false or unknown
abbrev pub truth_of : Target → List Value → List Value → Option Bool
truth_of cond row params = known (truth_or_fault (value_of cond row params))
