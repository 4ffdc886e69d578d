-- Expressions: each gives a node, or its first refusal.
use Rattle.std.specs.Prelude.{Bool, true, false, Option, None, Some, Result, Ok, Err, List, [], ◌∷◌, ◌++◌, length, ◌==◌, codes, map, if◌then◌else◌}
use Rattle.q_base.specs.declared.errors.SqlError.{SqlError}
use Rattle.q_value.specs.declared.value.SqlType.{SqlType}
use Rattle.q_value.specs.declared.value.SqlType.TheVariants as kind
use Rattle.query_tree.specs.declared.target.CompareOp.TheVariants as ordering
use Rattle.query_tree.specs.declared.target.Target.{Target}
use Rattle.query_tree.specs.declared.target.Target.TheVariants as target
use Rattle.query_tree.specs.Targets.{target_kind}
use Rattle.sql_tree.specs.declared.expr.Arithmetic.{Arithmetic}
use Rattle.sql_tree.specs.declared.expr.Comparison.{Comparison}
use Rattle.sql_tree.specs.declared.expr.Comparison.TheVariants as comparing
use Rattle.sql_tree.specs.declared.expr.Expr.{Expr}
use Rattle.sql_tree.specs.declared.expr.Expr.TheOpen.{Expr-F}
use Rattle.sql_tree.specs.declared.expr.Expr.TheFolds.{fold-Expr}
use Rattle.expr_analysis.specs.declared.expressions.Bounds.{Bounds}
use Rattle.expr_analysis.specs.declared.node.Node.{Node}
use Rattle.expr_analysis.specs.declared.node.Node.TheVariants as node
use Rattle.expr_analysis.specs.declared.state.Allowed.{Allowed}
use Rattle.expr_analysis.specs.Aggregates.{called, called_star}
use Rattle.expr_analysis.specs.Analysis.{Outcome, Analysis, ◌>>=◌, pure, lift}
use Rattle.expr_analysis.specs.Nodes.{Text, naming, go_on, literal, typed, condition_of, is_refused, null_of}
use Rattle.expr_analysis.specs.Operators.{comparison, arithmetic, minus, pair_typed, beside_if}
use Rattle.expr_analysis.specs.Params.{param}
use Rattle.expr_analysis.specs.Scopes.{column}
use Rattle.expr_analysis.specs.Sights.{Sight}

-- what an expression is where it stands
abbrev pub Meaning : Type 0
Meaning = Sight → Allowed → Analysis Node

-- the first reading passes over a refusal
abbrev pub passed_over : Outcome Node → Outcome Node
passed_over (Ok p) = Ok p
passed_over (Err q) = if q.1.first then Ok (node.Refused, q.1) else Err q

abbrev pub operand : Meaning → Meaning
operand meaning scope allowed = λ s. passed_over (meaning scope allowed s)

-- within the argument of an aggregate
abbrev pub inside : Allowed → Allowed
inside allowed = record { aggregates = false; arithmetic = allowed.arithmetic; in_aggregate = true }

-- arithmetic on what was found and an expression
abbrev pub arithmetic_with : Arithmetic → Node → Meaning → Meaning
arithmetic_with op left right scope allowed = operand right scope allowed >>= (λ r. arithmetic allowed op left r)

-- what was found, compared with an expression
abbrev pub compare_to : Comparison → Node → Meaning → Meaning
compare_to op left right scope allowed = operand right scope allowed >>= (λ r. comparison op left r)

-- what analyses find, one after another
abbrev pub gathered : {A : Type 0} → List A → List (Analysis A) → Analysis (List A)
gathered found [] = pure found
gathered found (one ∷ others) = one >>= (λ x. gathered (found ++ x ∷ []) others)

abbrev pub operands : List Meaning → Sight → Allowed → Analysis (List Node)
operands parts scope allowed = gathered [] (map (λ part. operand part scope allowed) parts)

unfoldable pub null_test : Node → Bool → Result Node SqlError
null_test inner negated = go_on (typed kind.Text inner) (λ t. Ok (node.Typed (target.IsNull t negated)))

unfoldable pub negation : Node → Result Node SqlError
negation inner = go_on (condition_of (codes "NOT") inner) (λ t. Ok (node.Typed (target.Not t)))

unfoldable pub negated_if : Bool → Node → Result Node SqlError
negated_if true whole = go_on (typed kind.Bool whole) (λ t. Ok (node.Typed (target.Not t)))
negated_if false whole = Ok whole

-- what is found in each of a list, or the first refusal
abbrev pub each_of : {A B : Type 0} → (A → Result B SqlError) → List B → List A → Result (List B) SqlError
each_of f found [] = Ok found
each_of f found (x ∷ xs) = go_on (f x) (λ y. each_of f (found ++ y ∷ []) xs)

unfoldable pub truths : List Node → Result (List Target) SqlError
truths found = each_of (typed kind.Bool) [] found

unfoldable pub any_of : List Node → Result Node SqlError
any_of found = go_on (truths found) (λ all. Ok (node.Typed (target.Or all)))

unfoldable pub both_of : Node → Node → Result Node SqlError
both_of low high = go_on (pair_typed kind.Bool low high) (λ both. Ok (node.Typed (target.And (both.left ∷ both.right ∷ []))))

unfoldable pub conditions : Text → List Node → Result (List Target) SqlError
conditions name parts = each_of (condition_of name) [] parts

unfoldable pub conjunction : List Node → Result Node SqlError
conjunction parts = go_on (conditions (codes "AND") parts) (λ all. Ok (node.Typed (target.And all)))

unfoldable pub disjunction : List Node → Result Node SqlError
disjunction parts = go_on (conditions (codes "OR") parts) (λ all. Ok (node.Typed (target.Or all)))

-- an operand without a type once more
abbrev pub once_more : Bool → Meaning → Meaning
once_more refused inner scope allowed = if refused then pure node.Refused else operand inner scope allowed

-- a comparison of what was found, as an operand
abbrev pub compared_to : Comparison → Node → Meaning → Meaning
compared_to op left right = operand (compare_to op left right)

-- a comparison of an operand without a type, analysed anew
abbrev pub compared_anew : Comparison → Bool → Meaning → Meaning → Meaning
compared_anew op refused inner right scope allowed = once_more refused inner scope allowed >>= (λ l. compared_to op l right scope allowed)

-- ---- IN

-- what an operand of the type is compared with
abbrev pub value_beside : Comparison → SqlType → Meaning → Sight → Allowed → Analysis (Option Target)
value_beside op kind value scope allowed = operand value scope allowed >>= (λ n. beside_if op kind n)

abbrev pub with_value : List Target → Option Target → List Target
with_value found None = found
with_value found (Some value) = found ++ value ∷ []

abbrev pub values_beside : SqlType → List Target → List Meaning → Sight → Allowed → Analysis (List Target)
values_beside kind found [] scope allowed = pure found
values_beside kind found (value ∷ values) scope allowed =
    value_beside comparing.Equal kind value scope allowed >>= (λ one. values_beside kind (with_value found one) values scope allowed)

-- what the first reading passes over in all its values is null
unfoldable pub member_of : Target → List Target → Target
member_of left values = if length values == 0 then null_of kind.Bool else target.In left values

-- a typed operand among values
abbrev pub member : Target → List Meaning → Meaning
member left values scope allowed = values_beside (target_kind left) [] values scope allowed >>= (λ found. pure (node.Typed (member_of left found)))

abbrev pub others_equal : Bool → Node → Meaning → List Meaning → Sight → Allowed → Analysis (List Node)
others_equal refused one inner others scope allowed =
    gathered (one ∷ []) (map (λ value. compared_anew comparing.Equal refused inner value scope allowed) others)

-- an operand without a type, analysed anew for each value
abbrev pub any_equal : Node → Meaning → List Meaning → Meaning
any_equal left inner [] scope allowed = pure node.Refused
any_equal left inner (first ∷ others) scope allowed =
    compared_to comparing.Equal left first scope allowed >>= (λ one. others_equal (is_refused left) one inner others scope allowed >>= (λ found. lift (any_of found)))

abbrev pub several : Node → Meaning → List Meaning → Meaning
several (node.Typed left) inner values scope allowed = member left values scope allowed
several left inner values scope allowed = any_equal left inner values scope allowed

-- IN with one value is one comparison
abbrev pub membership_of : Meaning → Meaning → List Meaning → Sight → Allowed → Node → Analysis Node
membership_of inner first others scope allowed left =
    if length others == 0 then compared_to comparing.Equal left first scope allowed else several left inner (first ∷ others) scope allowed

abbrev pub membership : Meaning → List Meaning → Meaning
membership inner [] scope allowed = pure node.Refused
membership inner (first ∷ others) scope allowed = operand inner scope allowed >>= membership_of inner first others scope allowed

-- ---- BETWEEN

abbrev pub bounds : SqlType → Meaning → Meaning → Sight → Allowed → Analysis Bounds
bounds kind low high scope allowed =
    value_beside comparing.GreaterEqual kind low scope allowed >>= (λ l. value_beside comparing.LessEqual kind high scope allowed >>= (λ h. pure (record { low = l; high = h })))

abbrev pub between_these : Target → Option Target → Option Target → Target
between_these left (Some low) (Some high) = target.Between left low high
between_these left (Some low) None = target.Compare ordering.GreaterEqual left low
between_these left None (Some high) = target.Compare ordering.LessEqual left high
between_these left None None = null_of kind.Bool

unfoldable pub between_of : Target → Bounds → Target
between_of left found = between_these left found.low found.high

-- a typed operand between two bounds
abbrev pub between : Target → Meaning → Meaning → Meaning
between left low high scope allowed = bounds (target_kind left) low high scope allowed >>= (λ found. pure (node.Typed (between_of left found)))

-- an operand without a type, analysed anew for the second bound
abbrev pub both_compared : Node → Meaning → Meaning → Meaning → Meaning
both_compared left inner low high scope allowed =
    compared_to comparing.GreaterEqual left low scope allowed >>= (λ l. compared_anew comparing.LessEqual (is_refused left) inner high scope allowed >>= (λ h. lift (both_of l h)))

abbrev pub range_of : Node → Meaning → Meaning → Meaning → Meaning
range_of (node.Typed left) inner low high scope allowed = between left low high scope allowed
range_of left inner low high scope allowed = both_compared left inner low high scope allowed

abbrev pub range : Meaning → Meaning → Meaning → Meaning
range inner low high scope allowed = operand inner scope allowed >>= (λ l. range_of l inner low high scope allowed)

-- one node of the tree, with what each operand is in its place
abbrev pub node_meaning : Expr-F Meaning → Meaning
node_meaning (Expr-F.Literal constant) scope allowed = lift (literal constant)
node_meaning (Expr-F.Param digits) scope allowed = param digits
node_meaning (Expr-F.Column name) scope allowed = lift (column scope name)
node_meaning (Expr-F.Call function argument) scope allowed = operand argument scope (inside allowed) >>= (λ a. called scope.width allowed function a)
node_meaning (Expr-F.CallStar function) scope allowed = called_star scope.width allowed function
node_meaning (Expr-F.Minus inner) scope allowed = operand inner scope allowed >>= (λ n. lift (minus allowed n))
node_meaning (Expr-F.Arithmetic op left right) scope allowed = operand left scope allowed >>= (λ l. arithmetic_with op l right scope allowed)
node_meaning (Expr-F.Comparison op left right) scope allowed = operand left scope allowed >>= (λ l. compare_to op l right scope allowed)
node_meaning (Expr-F.IsNull inner negated) scope allowed = operand inner scope allowed >>= (λ n. lift (null_test n negated))
node_meaning (Expr-F.InList inner values negated) scope allowed = membership inner values scope allowed >>= (λ whole. lift (negated_if negated whole))
node_meaning (Expr-F.Between inner low high negated) scope allowed = range inner low high scope allowed >>= (λ whole. lift (negated_if negated whole))
node_meaning (Expr-F.Not inner) scope allowed = operand inner scope allowed >>= (λ n. lift (negation n))
node_meaning (Expr-F.And parts) scope allowed = operands parts scope allowed >>= (λ found. lift (conjunction found))
node_meaning (Expr-F.Or parts) scope allowed = operands parts scope allowed >>= (λ found. lift (disjunction found))

-- what an expression is where it stands
abbrev pub meaning : Expr → Meaning
meaning = fold-Expr Meaning node_meaning

-- ---- the parts of an IN or a BETWEEN; another expression has none

abbrev pub membership_in : Expr-F Expr → Meaning
membership_in (Expr-F.InList inner values negated) scope allowed = membership (meaning inner) (map meaning values) scope allowed
membership_in _ scope allowed = pure node.Refused

abbrev pub several_in : Node → Expr-F Expr → Meaning
several_in left (Expr-F.InList inner values negated) scope allowed = several left (meaning inner) (map meaning values) scope allowed
several_in left _ scope allowed = pure node.Refused

abbrev pub any_equal_in : Node → Expr-F Expr → Meaning
any_equal_in left (Expr-F.InList inner values negated) scope allowed = any_equal left (meaning inner) (map meaning values) scope allowed
any_equal_in left _ scope allowed = pure node.Refused

abbrev pub behind_first : {A : Type 0} → List A → List A
behind_first [] = []
behind_first (x ∷ xs) = xs

abbrev pub others_equal_in : Bool → Node → Expr-F Expr → Sight → Allowed → Analysis (List Node)
others_equal_in refused one (Expr-F.InList inner values negated) scope allowed = others_equal refused one (meaning inner) (map meaning (behind_first values)) scope allowed
others_equal_in refused one _ scope allowed = pure (one ∷ [])

abbrev pub range_in : Expr-F Expr → Meaning
range_in (Expr-F.Between inner low high negated) scope allowed = range (meaning inner) (meaning low) (meaning high) scope allowed
range_in _ scope allowed = pure node.Refused

abbrev pub bounds_in : SqlType → Expr-F Expr → Sight → Allowed → Analysis Bounds
bounds_in kind (Expr-F.Between inner low high negated) scope allowed = bounds kind (meaning low) (meaning high) scope allowed
bounds_in kind _ scope allowed = pure (record { low = None; high = None })

abbrev pub both_compared_in : Node → Expr-F Expr → Meaning
both_compared_in left (Expr-F.Between inner low high negated) scope allowed = both_compared left (meaning inner) (meaning low) (meaning high) scope allowed
both_compared_in left _ scope allowed = pure node.Refused

abbrev pub second_compared_in : Bool → Expr-F Expr → Meaning
second_compared_in refused (Expr-F.Between inner low high negated) scope allowed = compared_anew comparing.LessEqual refused (meaning inner) (meaning high) scope allowed
second_compared_in refused _ scope allowed = pure node.Refused
