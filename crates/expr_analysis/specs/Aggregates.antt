-- Calls of aggregates.
use Rattle.std.specs.Prelude.{ℕ, suc, Bool, false, not, ◌||◌, Option, None, Some, Result, Ok, Err, List, [], ◌∷◌, ◌++◌, length, codes, if◌then◌else◌}
use Rattle.std.specs.Str.{bytes_eq}
use Rattle.q_base.specs.declared.code.Code.TheVariants.{UnknownFunction, AggregateNotAllowed, SumBigintNotSupported, ArithmeticNotSupported}
use Rattle.q_base.specs.declared.errors.SqlError.{SqlError}
use Rattle.q_value.specs.declared.value.SqlType.{SqlType}
use Rattle.q_value.specs.declared.value.SqlType.TheVariants as kind
use Rattle.q_value.specs.Values.{type_name}
use Rattle.q_value.specs.Conversions.{plain}
use Rattle.query_tree.specs.declared.query.Aggregate.{Aggregate}
use Rattle.query_tree.specs.declared.query.Aggregate.TheVariants as aggregate
use Rattle.query_tree.specs.declared.target.Target.{Target}
use Rattle.query_tree.specs.declared.target.Target.TheVariants as target
use Rattle.query_tree.specs.Targets.{target_kind, is_fallible}
use Rattle.expr_analysis.specs.declared.node.Node.{Node}
use Rattle.expr_analysis.specs.declared.node.Node.TheVariants as node
use Rattle.expr_analysis.specs.declared.state.Allowed.{Allowed}
use Rattle.expr_analysis.specs.Analysis.{Analysis, ◌>>=◌, pure, refuse, lift}
use Rattle.expr_analysis.specs.Nodes.{Text, naming_two, typed}
use Rattle.expr_analysis.specs.Same.{same_aggregate}
use Rattle.expr_analysis.specs.Scopes.{◌⊕◌}

abbrev pub sum_kind : SqlType → Option SqlType
sum_kind kind.Int2 = Some kind.Int8
sum_kind kind.Int4 = Some kind.Int8
sum_kind kind.Int8 = Some kind.Int8
sum_kind kind.Text = None
sum_kind kind.Bool = None

abbrev pub least_kind : SqlType → Option SqlType
least_kind kind.Int2 = Some kind.Int2
least_kind kind.Int4 = Some kind.Int4
least_kind kind.Int8 = Some kind.Int8
least_kind kind.Text = Some kind.Text
least_kind kind.Bool = None

-- the type of a call's value, where the function takes an argument of the type
unfoldable pub call_kind : Text → SqlType → Option SqlType
call_kind function type =
    if bytes_eq function (codes "count") then Some kind.Int8
    else (if bytes_eq function (codes "sum") then sum_kind type
    else (if bytes_eq function (codes "min") || bytes_eq function (codes "max") then least_kind type else None))

unfoldable pub aggregate_of : Text → Target → Aggregate
aggregate_of function argument =
    if bytes_eq function (codes "count") then aggregate.Count argument
    else (if bytes_eq function (codes "sum") then aggregate.Sum argument
    else (if bytes_eq function (codes "min") then aggregate.Min argument else aggregate.Max argument))

unfoldable pub is_bigint_sum : Text → SqlType → Bool
is_bigint_sum function kind.Int8 = bytes_eq function (codes "sum")
is_bigint_sum function _ = false

unfoldable pub check_call : Allowed → Text → Target → Result (Unit {0}) SqlError
check_call allowed function argument =
    if not allowed.aggregates then Err (plain AggregateNotAllowed)
    else (if is_bigint_sum function (target_kind argument) then Err (plain SumBigintNotSupported)
    else (if is_fallible argument then Err (plain ArithmeticNotSupported) else Ok tt))

-- the place of an aggregate among others, counted from a number
abbrev pub number_from : ℕ → Aggregate → List Aggregate → Option ℕ
number_from number found [] = None
number_from number found (known ∷ aggregates) = if same_aggregate known found then Some number else number_from (suc number) found aggregates

-- a group's aggregates stand behind the columns of all items
abbrev pub read_aggregate : ℕ → SqlType → ℕ → Node
read_aggregate width kind number = node.Typed (target.Aggregate kind (record { number = number; place = width ⊕ number }))

abbrev pub placed_at : ℕ → SqlType → Aggregate → Option ℕ → Analysis Node
placed_at width kind found (Some number) = pure (read_aggregate width kind number)
placed_at width kind found None = λ s. Ok (read_aggregate width kind (length s.aggregates), record s { aggregates = s.aggregates ++ found ∷ [] })

-- the aggregate joins those of the query where none of them is the same
unfoldable pub placed : ℕ → SqlType → Aggregate → Analysis Node
placed width kind found = λ s. placed_at width kind found (number_from 0 found s.aggregates) s

abbrev pub called_as : ℕ → Allowed → Text → Target → Option SqlType → Analysis Node
called_as width allowed function argument None = refuse (naming_two UnknownFunction function (type_name (target_kind argument)))
called_as width allowed function argument (Some kind) = lift (check_call allowed function argument) >>= (λ _. placed width kind (aggregate_of function argument))

unfoldable pub called : ℕ → Allowed → Text → Node → Analysis Node
called width allowed function argument = lift (typed kind.Text argument) >>= (λ t. called_as width allowed function t (call_kind function (target_kind t)))

unfoldable pub called_star : ℕ → Allowed → Text → Analysis Node
called_star width allowed function =
    if not (bytes_eq function (codes "count")) then refuse (naming_two UnknownFunction function (codes "*"))
    else (if not allowed.aggregates then refuse (plain AggregateNotAllowed) else placed width kind.Int8 aggregate.CountRows)
