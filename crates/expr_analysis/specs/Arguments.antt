-- The arguments of EXECUTE.
use Rattle.std.specs.Prelude.{◌≡◌, ℕ, ◌+◌, Bool, true, false, None, Result, List, [], ◌∷◌, ◌++◌, length, if◌then◌else◌}
use Rattle.std.specs.Fmt.{decimal}
use Rattle.q_base.specs.declared.code.Code.TheVariants.{ParameterTypeMismatch}
use Rattle.q_base.specs.declared.errors.SqlError.{SqlError}
use Rattle.q_base.specs.declared.errors.Stop.{Stop}
use Rattle.q_base.specs.Stops.{StopsBy}
use Rattle.q_value.specs.declared.value.SqlType.{SqlType}
use Rattle.q_value.specs.declared.value.SqlType.TheVariants as kind
use Rattle.q_value.specs.Values.{type_name}
use Rattle.query_tree.specs.declared.target.Target.{Target}
use Rattle.query_tree.specs.Targets.{target_kind}
use Rattle.sql_tree.specs.declared.expr.Expr.{Expr}
use Rattle.expr_analysis.specs.declared.state.Allowed.{Allowed}
use Rattle.expr_analysis.specs.Analysis.{Analysis, ◌>>=◌, pure, refuse, result_of, start}
use Rattle.expr_analysis.specs.Expressions.{meaning, operand}
use Rattle.expr_analysis.specs.Scopes.{no_items}
use Rattle.expr_analysis.specs.Nodes.{naming_three, given}

-- integers to one another, integers and booleans to text, and every type to itself
abbrev pub is_assignable : SqlType → SqlType → Bool
is_assignable _ kind.Text = true
is_assignable kind.Bool kind.Bool = true
is_assignable kind.Bool _ = false
is_assignable kind.Text _ = false
is_assignable _ kind.Bool = false
is_assignable _ _ = true

abbrev pub argument_allowed : Allowed
argument_allowed = record { aggregates = false; arithmetic = true; in_aggregate = false }

abbrev pub not_assignable : ℕ → SqlType → SqlType → SqlError
not_assignable number from to = naming_three ParameterTypeMismatch (decimal number) (type_name from) (type_name to)

abbrev pub StopsByArgument : ℕ → SqlType → SqlType → Stop → Type 0
StopsByArgument number from to stop = StopsBy (λ e. e ≡ not_assignable number from to) stop

abbrev pub assigned : ℕ → SqlType → Target → Analysis Target
assigned number kind t = if is_assignable (target_kind t) kind then pure t else refuse (not_assignable number (target_kind t) kind)

-- the argument for $number
unfoldable pub argument : ℕ → SqlType → Expr → Analysis Target
argument number kind written = operand (meaning written) no_items argument_allowed >>= (λ n. given kind n >>= (λ t. assigned number kind t))

-- as many as there are types
abbrev pub arguments_from : List Target → List Expr → List SqlType → Analysis (List Target)
arguments_from found [] kinds = pure found
arguments_from found (arg ∷ args) [] = pure found
arguments_from found (arg ∷ args) (kind ∷ kinds) = argument (length found + 1) kind arg >>= (λ t. arguments_from (found ++ t ∷ []) args kinds)

abbrev pub analysed : List Expr → List SqlType → Result (List Target) SqlError
analysed args types = result_of (arguments_from [] args types (start None))
