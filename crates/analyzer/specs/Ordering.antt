-- ORDER BY.
use Rattle.std.specs.Prelude.{◌≡◌, pred, ℤ, pos, nat_abs, int_le, Bool, true, false, not, ◌&&◌, is_some, Option, None, Some, Result, Ok, Err, List, [], ◌∷◌, ◌++◌, slice_get, if◌then◌else◌}
use Rattle.std.specs.Str.{bytes_eq}
use Rattle.q_base.specs.declared.code.Code.TheVariants.{SyntaxError, OrderPositionMissing, ArithmeticNotSupported, AmbiguousColumn, DistinctOrderNotListed}
use Rattle.q_base.specs.declared.errors.SqlError.{SqlError}
use Rattle.q_base.specs.declared.errors.Stop.{Stop}
use Rattle.q_base.specs.Stops.{StopsBy}
use Rattle.q_value.specs.declared.value.SqlType.TheVariants as kind
use Rattle.q_value.specs.Conversions.{plain}
use Rattle.query_tree.specs.declared.query.SortKey.{SortKey}
use Rattle.query_tree.specs.declared.target.Target.{Target}
use Rattle.query_tree.specs.Targets.{is_fallible}
use Rattle.sql_tree.specs.declared.expr.Expr.{Expr, out-Expr}
use Rattle.sql_tree.specs.declared.expr.Expr.TheOpen.{Expr-F}
use Rattle.sql_tree.specs.declared.expr.Literal.{Literal}
use Rattle.sql_tree.specs.declared.expr.Literal.TheVariants as constant
use Rattle.sql_tree.specs.declared.expr.Numeral.{Numeral}
use Rattle.sql_tree.specs.declared.names.ColumnRef.{ColumnRef}
use Rattle.sql_tree.specs.declared.select.OrderItem.{OrderItem}
use Rattle.analyzer.specs.declared.outputs.Output.{Output}
use Rattle.expr_analysis.specs.declared.state.Allowed.{Allowed}
use Rattle.expr_analysis.specs.Analysis.{Analysis, ◌>>=◌, pure, refuse, lift}
use Rattle.expr_analysis.specs.Expressions.{meaning, operand}
use Rattle.expr_analysis.specs.Nodes.{Text, naming, typed}
use Rattle.expr_analysis.specs.Numbers.{number_of, shown_number}
use Rattle.expr_analysis.specs.Same.{same_target}
use Rattle.expr_analysis.specs.Sights.{Sight}

-- a target of the select list as a key
unfoldable pub listed : Target → Result Target SqlError
listed t = if is_fallible t then Err (plain ArithmeticNotSupported) else Ok t

-- the output at a place, counted from 1
abbrev pub output_at : List Output → Option ℤ → Option Output
output_at outputs None = None
output_at outputs (Some number) = if int_le (pos 1) number then slice_get outputs (pred (nat_abs number)) else None

abbrev pub no_position : Numeral → SqlError
no_position numeral = naming OrderPositionMissing (shown_number numeral.negative numeral.digits)

abbrev pub StopsByPosition : Numeral → Stop → Type 0
StopsByPosition numeral stop = StopsBy (λ e. e ≡ no_position numeral) stop

abbrev pub at_position : Numeral → Option Output → Result Target SqlError
at_position numeral (Some output) = listed output.target
at_position numeral None = Err (no_position numeral)

unfoldable pub by_position : List Output → Numeral → Result Target SqlError
by_position outputs numeral = at_position numeral (output_at outputs (number_of numeral.negative numeral.digits))

abbrev pub by_constant : List Output → Literal → Result Target SqlError
by_constant outputs (constant.Number numeral) = by_position outputs numeral
by_constant outputs (constant.Text text) = Err (plain SyntaxError)
by_constant outputs constant.Null = Err (plain SyntaxError)
by_constant outputs (constant.Bool truth) = Err (plain SyntaxError)

unfoldable pub by_expression : Sight → Allowed → Expr → Analysis Target
by_expression scope place written = operand (meaning written) scope place >>= (λ n. lift (typed kind.Text n))

-- the first output of a name
abbrev pub output_named : Text → List Output → Option Output
output_named name [] = None
output_named name (output ∷ outputs) = if bytes_eq output.name name then Some output else output_named name outputs

-- an output of the name differs from the target
abbrev pub is_ambiguous : Text → Target → List Output → Bool
is_ambiguous name t [] = false
is_ambiguous name t (output ∷ outputs) = if bytes_eq output.name name && not (same_target output.target t) then true else is_ambiguous name t outputs

abbrev pub by_output : Sight → Allowed → List Output → Text → Expr → Option Output → Analysis Target
by_output scope place outputs name written (Some output) =
    if is_ambiguous name output.target outputs then refuse (naming AmbiguousColumn name) else lift (listed output.target)
by_output scope place outputs name written None = by_expression scope place written

unfoldable pub by_column : Sight → Allowed → List Output → ColumnRef → Expr → Analysis Target
by_column scope place outputs column written =
    if is_some column.item then by_expression scope place written else by_output scope place outputs column.name written (output_named column.name outputs)

abbrev pub key_by : {A : Type 0} → Sight → Allowed → List Output → Expr → Expr-F A → Analysis Target
key_by scope place outputs written (Expr-F.Literal constant) = lift (by_constant outputs constant)
key_by scope place outputs written (Expr-F.Column column) = by_column scope place outputs column written
key_by scope place outputs written _ = by_expression scope place written

unfoldable pub key_target : Sight → Allowed → List Output → Expr → Analysis Target
key_target scope place outputs written = key_by scope place outputs written (out-Expr written)

abbrev pub sort_key : OrderItem → Target → SortKey
sort_key key t = record { target = t; desc = key.descending; nulls_first = key.nulls_first }

abbrev pub sort_keys_from : Sight → Allowed → List Output → List SortKey → List OrderItem → Analysis (List SortKey)
sort_keys_from scope place outputs found [] = pure found
sort_keys_from scope place outputs found (key ∷ keys) =
    key_target scope place outputs key.expr >>= (λ t. sort_keys_from scope place outputs (found ++ sort_key key t ∷ []) keys)

abbrev pub is_listed : Target → List Output → Bool
is_listed t [] = false
is_listed t (output ∷ outputs) = if same_target output.target t then true else is_listed t outputs

-- with DISTINCT each key is a target of the select list
abbrev pub distinct_from : List Output → List SortKey → Result (Unit {0}) SqlError
distinct_from outputs [] = Ok tt
distinct_from outputs (key ∷ keys) = if not (is_listed key.target outputs) then Err (plain DistinctOrderNotListed) else distinct_from outputs keys
