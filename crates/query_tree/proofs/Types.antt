-- A typed target's value is of its type.
use Rattle.std.proofs.Common.{◌≡◌, ℕ, zero, suc, ℤ, Bool, true, false, List, [], ◌∷◌, map, Option, Some, None, Result, Ok, Err, IfOk, IfSome, refl, sym, ap, ◌∙◌, subst, true≢false, cond}
use Rattle.std.specs.Option.{option_and_then}
use Rattle.q_base.specs.declared.code.Code.{Code}
use Rattle.q_value.specs.declared.value.SqlType.{SqlType}
use Rattle.q_value.specs.declared.value.SqlType.TheVariants as kind
use Rattle.q_value.specs.declared.value.Value.{Value}
use Rattle.q_value.specs.declared.value.Value.TheVariants as value
use Rattle.q_value.specs.Values.{IsOf, Fits, kind_of, is_within, integer_in}
use Rattle.query_tree.specs.declared.target.ArithmeticOp.{ArithmeticOp}
use Rattle.query_tree.specs.declared.target.ArithmeticOp.TheVariants as arithmetic
use Rattle.query_tree.specs.declared.target.Target.{Target, Target-F, map-Target, roll-Target, out-Target, fold_out-Target}
use Rattle.query_tree.specs.Targets.{head_kind, target_kind}
use Rattle.query_tree.specs.Evaluation.{value_of, node_value, then_with, joined, both, either, value_at, param_value, truth_value, as_integer, range_fault, or_fault, computed, computed_number, computed_where_both, negated_number, comparison_outcome}
use Rattle.query_tree.specs.declared.target.CompareOp.TheVariants as compare
use Rattle.query_tree.specs.Typing.{is_kind, is_truth, expected, integer_kind, wider, common_kind, constant_kind, column_kind, param_kind, node_kind, typed_kind, IsTyped, FitsRow}

no : {A : Type 0} → false ≡ true → A
no e = absurd (true≢false (sym e))

same_kind : (a b : SqlType) → is_kind a b ≡ true → a ≡ b
same_kind kind.Int2 kind.Int2 e = refl
same_kind kind.Int2 kind.Int4 e = no e
same_kind kind.Int2 kind.Int8 e = no e
same_kind kind.Int2 kind.Text e = no e
same_kind kind.Int2 kind.Bool e = no e
same_kind kind.Int4 kind.Int2 e = no e
same_kind kind.Int4 kind.Int4 e = refl
same_kind kind.Int4 kind.Int8 e = no e
same_kind kind.Int4 kind.Text e = no e
same_kind kind.Int4 kind.Bool e = no e
same_kind kind.Int8 kind.Int2 e = no e
same_kind kind.Int8 kind.Int4 e = no e
same_kind kind.Int8 kind.Int8 e = refl
same_kind kind.Int8 kind.Text e = no e
same_kind kind.Int8 kind.Bool e = no e
same_kind kind.Text kind.Int2 e = no e
same_kind kind.Text kind.Int4 e = no e
same_kind kind.Text kind.Int8 e = no e
same_kind kind.Text kind.Text e = refl
same_kind kind.Text kind.Bool e = no e
same_kind kind.Bool kind.Int2 e = no e
same_kind kind.Bool kind.Int4 e = no e
same_kind kind.Bool kind.Int8 e = no e
same_kind kind.Bool kind.Text e = no e
same_kind kind.Bool kind.Bool e = refl

some_same : {A : Type 0} {a b : A} → Some a ≡ Some b → a ≡ b
some_same e = cc e

-- what is expected is what was found, and what comes out
expected_found : (kind : SqlType) (found : Option SqlType) (type : SqlType) → expected kind found ≡ Some type → (found ≡ Some type) × (kind ≡ type)
expected_found kind None type e = absurd (cc e)
expected_found kind (Some found) type e = at (is_kind found kind) refl e
  where
    at : (test : Bool) → is_kind found kind ≡ test → cond test (Some kind) None ≡ Some type → (Some found ≡ Some type) × (kind ≡ type)
    at true is is_type = let one : kind ≡ type = cc is_type in (ap Some (same_kind found kind is ∙ one), one)
    at false is is_type = absurd (cc is_type)

-- where all operands are booleans the node is one
truths_found : (test : Bool) (type : SqlType) → cond test (Some kind.Bool) None ≡ Some type → kind.Bool ≡ type
truths_found true type e = cc e
truths_found false type e = absurd (cc e)

truth_found : {A : Type 0} (found : Option A) (type : SqlType) → option_and_then (λ one. Some kind.Bool) found ≡ Some type → kind.Bool ≡ type
truth_found None type e = absurd (cc e)
truth_found (Some one) type e = some_same e

compared_told : (left right : Option SqlType) (type : SqlType) →
    option_and_then (λ l. option_and_then (λ r. option_and_then (λ common. Some kind.Bool) (common_kind l r)) right) left ≡ Some type → kind.Bool ≡ type
compared_told None right type e = absurd (cc e)
compared_told (Some l) None type e = absurd (cc e)
compared_told (Some l) (Some r) type e = truth_found (common_kind l r) type e

computed_told : (head : SqlType) (left right : Option SqlType) (type : SqlType) →
    option_and_then (λ l. option_and_then (λ r. expected head (wider l r)) right) left ≡ Some type → head ≡ type
computed_told head None right type e = absurd (cc e)
computed_told head (Some l) None type e = absurd (cc e)
computed_told head (Some l) (Some r) type e = (expected_found head (wider l r) type e).1

negated_told : (head : SqlType) (operand : Option SqlType) (type : SqlType) → option_and_then (λ found. expected head (integer_kind found)) operand ≡ Some type → head ≡ type
negated_told head None type e = absurd (cc e)
negated_told head (Some found) type e = (expected_found head (integer_kind found) type e).1

then_if : {A B : Type 0} (P : B → Type 0) (outcome : Result A Code) (next : A → Result B Code) → ((found : A) → IfOk (next found) P) → IfOk (then_with outcome next) P
then_if P (Ok found) next more = more found
then_if P (Err code) next more = tt

truth_is : (truth : Option Bool) → IsOf kind.Bool (truth_value truth)
truth_is None = tt
truth_is (Some truth) = refl

or_fault_is : (type : SqlType) (code : Code) (found : Option Value) → IfSome found (IsOf type) → IfOk (or_fault code found) (IsOf type)
or_fault_is type code None is = tt
or_fault_is type code (Some found) is = is

within_is : (type : SqlType) (test : Bool) (found : Value) → IsOf type found → IfSome (cond test (Some found) None) (IsOf type)
within_is type true found is = is
within_is type false found is = tt

integer_is : (type : SqlType) (z : ℤ) → IfSome (integer_in type z) (IsOf type)
integer_is kind.Int2 z = within_is kind.Int2 _ (value.Int2 z) refl
integer_is kind.Int4 z = within_is kind.Int4 _ (value.Int4 z) refl
integer_is kind.Int8 z = within_is kind.Int8 _ (value.Int8 z) refl
integer_is kind.Text z = tt
integer_is kind.Bool z = tt

as_integer_is : (type : SqlType) (z : ℤ) → IfOk (as_integer type z) (IsOf type)
as_integer_is type z = or_fault_is type (range_fault type) (integer_in type z) (integer_is type z)

unless_is : (type : SqlType) (test : Bool) (code : Code) (z : ℤ) → IfOk (cond test (Err code) (as_integer type z)) (IsOf type)
unless_is type true code z = tt
unless_is type false code z = as_integer_is type z

number_is : (op : ArithmeticOp) (type : SqlType) (l r : ℤ) → IfOk (computed_number op type l r) (IsOf type)
number_is arithmetic.Add type l r = as_integer_is type _
number_is arithmetic.Subtract type l r = as_integer_is type _
number_is arithmetic.Multiply type l r = as_integer_is type _
number_is arithmetic.Divide type l r = unless_is type _ _ _

both_is : (op : ArithmeticOp) (type : SqlType) (l r : Option ℤ) → IfOk (computed_where_both op type l r) (IsOf type)
both_is op type (Some l) (Some r) = number_is op type l r
both_is op type None r = tt
both_is op type (Some l) None = tt

negated_is : (type : SqlType) (z : Option ℤ) → IfOk (negated_number type z) (IsOf type)
negated_is type None = tt
negated_is type (Some z) = as_integer_is type _

constant_is : (head type : SqlType) (constant : Value) → constant_kind head constant ≡ Some type → IsOf type constant
constant_is head type value.Null e = tt
constant_is head type (value.Int2 n) e = some_same ((expected_found head (Some kind.Int2) type e).0)
constant_is head type (value.Int4 n) e = some_same ((expected_found head (Some kind.Int4) type e).0)
constant_is head type (value.Int8 n) e = some_same ((expected_found head (Some kind.Int8) type e).0)
constant_is head type (value.Text t) e = some_same ((expected_found head (Some kind.Text) type e).0)
constant_is head type (value.Bool b) e = some_same ((expected_found head (Some kind.Bool) type e).0)

-- the value at a place whose type is known
at_is : (columns : List (Option SqlType)) (row : List Value) (place : ℕ) (type : SqlType) → FitsRow columns row → column_kind columns place ≡ Some type → IsOf type (value_at row place)
at_is [] [] place type fits e = absurd (cc e)
at_is [] (v ∷ row) place type fits e = absurd fits
at_is (column ∷ columns) [] place type fits e = absurd fits
at_is (Some known ∷ columns) (v ∷ row) zero type fits e = subst (λ (k : SqlType). IsOf k v) (cc e) fits.0
at_is (None ∷ columns) (v ∷ row) zero type fits e = absurd (cc e)
at_is (Some known ∷ columns) (v ∷ row) (suc place) type fits e = at_is columns row place type fits.1 e
at_is (None ∷ columns) (v ∷ row) (suc place) type fits e = at_is columns row place type fits e

listed_is : (types : List SqlType) (params : List Value) (place : ℕ) (type : SqlType) → Fits types params → param_kind types (suc place) ≡ Some type → IsOf type (value_at params place)
listed_is [] [] place type fits e = absurd (cc e)
listed_is [] (v ∷ params) place type fits e = absurd fits
listed_is (known ∷ types) [] place type fits e = absurd fits
listed_is (known ∷ types) (v ∷ params) zero type fits e = subst (λ (k : SqlType). IsOf k v) (cc e) fits.0
listed_is (known ∷ types) (v ∷ params) (suc place) type fits e = listed_is types params place type fits.1 e

param_is : (types : List SqlType) (params : List Value) (number : ℕ) (type : SqlType) → Fits types params → param_kind types number ≡ Some type → IsOf type (param_value params number)
param_is types params zero type fits e = absurd (cc e)
param_is types params (suc place) type fits e = listed_is types params place type fits e

module _ (columns : List (Option SqlType)) (types : List SqlType) where
  abbrev kinds : Target → Option SqlType
  kinds target = typed_kind columns types target

  node_told : (node : Target-F Target) (type : SqlType) → node_kind columns types (map-Target Target (Option SqlType) kinds node) ≡ Some type → head_kind node ≡ type
  node_told (Target-F.Const head value.Null) type e = some_same e
  node_told (Target-F.Const head (value.Int2 n)) type e = (expected_found head (Some kind.Int2) type e).1
  node_told (Target-F.Const head (value.Int4 n)) type e = (expected_found head (Some kind.Int4) type e).1
  node_told (Target-F.Const head (value.Int8 n)) type e = (expected_found head (Some kind.Int8) type e).1
  node_told (Target-F.Const head (value.Text t)) type e = (expected_found head (Some kind.Text) type e).1
  node_told (Target-F.Const head (value.Bool b)) type e = (expected_found head (Some kind.Bool) type e).1
  node_told (Target-F.Param kind number) type e = (expected_found kind _ type e).1
  node_told (Target-F.Column kind column) type e = (expected_found kind _ type e).1
  node_told (Target-F.Aggregate kind aggregate) type e = (expected_found kind _ type e).1
  node_told (Target-F.Arithmetic op head left right) type e = computed_told head (kinds left) (kinds right) type e
  node_told (Target-F.Negate head operand) type e = negated_told head (kinds operand) type e
  node_told (Target-F.Compare op left right) type e = compared_told (kinds left) (kinds right) type e
  node_told (Target-F.IsNull operand negated) type e = truth_found (kinds operand) type e
  node_told (Target-F.Not operand) type e = truths_found _ type e
  node_told (Target-F.And operands) type e = truths_found _ type e
  node_told (Target-F.Or operands) type e = truths_found _ type e
  node_told (Target-F.In operand values) type e = truths_found _ type e
  node_told (Target-F.Between operand low high) type e = truths_found _ type e

  typed_node : (target : Target) (type : SqlType) → IsTyped columns types type target → node_kind columns types (map-Target Target (Option SqlType) kinds (out-Target target)) ≡ Some type
  typed_node target type typed = sym (fold_out-Target (Option SqlType) (node_kind columns types) target) ∙ typed

  pub told : (target : Target) (type : SqlType) → IsTyped columns types type target → target_kind target ≡ type
  told target type typed = node_told (out-Target target) type (typed_node target type typed)

  module _ (row params : List Value) (fits : FitsRow columns row) (given : Fits types params) where
    abbrev value_in : Target → Result Value Code
    value_in target = value_of target row params

    -- the value of a node whose head tells its type
    node_is : (node : Target-F Target) (type : SqlType) → node_kind columns types (map-Target Target (Option SqlType) kinds node) ≡ Some type →
        head_kind node ≡ type → IfOk (node_value row params (map-Target Target (Result Value Code) value_in node)) (IsOf type)
    node_is (Target-F.Const kind constant) type e told = constant_is kind type constant e
    node_is (Target-F.Param kind number) type e told = param_is types params number type given (expected_found kind _ type e).0
    node_is (Target-F.Column kind column) type e told = at_is columns row column.place type fits (expected_found kind _ type e).0
    node_is (Target-F.Aggregate kind aggregate) type e told = at_is columns row aggregate.place type fits (expected_found kind _ type e).0
    node_is (Target-F.Arithmetic op kind left right) type e told =
        subst (λ (k : SqlType). IfOk (then_with (value_in left) (λ l. then_with (value_in right) (λ r. computed op kind l r))) (IsOf k)) told
        (then_if (IsOf kind) (value_in left) _ (λ l. then_if (IsOf kind) (value_in right) _ (λ r. both_is op kind _ _)))
    node_is (Target-F.Negate kind operand) type e told =
        subst (λ (k : SqlType). IfOk (node_value row params (Target-F.Negate kind (value_in operand))) (IsOf k)) told
        (then_if (IsOf kind) (value_in operand) _ (λ found. negated_is kind _))
    node_is (Target-F.Compare op left right) type e told =
        subst (λ (k : SqlType). IfOk (node_value row params (Target-F.Compare op (value_in left) (value_in right))) (IsOf k)) told
        (then_if (IsOf kind.Bool) (value_in left) _ (λ l. then_if (IsOf kind.Bool) (value_in right) _ (λ r. truth_is _)))
    node_is (Target-F.IsNull operand negated) type e told =
        subst (λ (k : SqlType). IfOk (node_value row params (Target-F.IsNull (value_in operand) negated)) (IsOf k)) told
        (then_if (IsOf kind.Bool) (value_in operand) _ (λ found. refl))
    node_is (Target-F.Not operand) type e told =
        subst (λ (k : SqlType). IfOk (node_value row params (Target-F.Not (value_in operand))) (IsOf k)) told
        (then_if (IsOf kind.Bool) (value_in operand) _ (λ found. truth_is _))
    node_is (Target-F.And operands) type e told =
        subst (λ (k : SqlType). IfOk (node_value row params (Target-F.And (map value_in operands))) (IsOf k)) told
        (then_if (IsOf kind.Bool) (joined both (Some true) (map value_in operands)) (λ truth. Ok (truth_value truth)) truth_is)
    node_is (Target-F.Or operands) type e told =
        subst (λ (k : SqlType). IfOk (node_value row params (Target-F.Or (map value_in operands))) (IsOf k)) told
        (then_if (IsOf kind.Bool) (joined either (Some false) (map value_in operands)) (λ truth. Ok (truth_value truth)) truth_is)
    node_is (Target-F.In operand values) type e told =
        subst (λ (k : SqlType). IfOk (node_value row params (Target-F.In (value_in operand) (map value_in values))) (IsOf k)) told
        (then_if (IsOf kind.Bool) (value_in operand) _ (λ found. then_if (IsOf kind.Bool) (joined either (Some false) (map (comparison_outcome compare.Equal (Ok found)) (map value_in values))) (λ truth. Ok (truth_value truth)) truth_is))
    node_is (Target-F.Between operand low high) type e told =
        subst (λ (k : SqlType). IfOk (node_value row params (Target-F.Between (value_in operand) (value_in low) (value_in high))) (IsOf k)) told
        (then_if (IsOf kind.Bool) (joined both (Some true) (comparison_outcome compare.GreaterEqual (value_in operand) (value_in low) ∷ comparison_outcome compare.LessEqual (value_in operand) (value_in high) ∷ [])) (λ truth. Ok (truth_value truth)) truth_is)

    pub typed_value : (target : Target) (type : SqlType) → IsTyped columns types type target → IfOk (value_of target row params) (IsOf type)
    typed_value target type typed =
        let node = typed_node target type typed in
        subst (λ (outcome : Result Value Code). IfOk outcome (IsOf type)) (sym (fold_out-Target (Result Value Code) (node_value row params) target))
        (node_is (out-Target target) type node (node_told (out-Target target) type node))
