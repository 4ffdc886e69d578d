-- WHERE, GROUP BY, HAVING, LIMIT and OFFSET.
use Rattle.std.specs.Prelude.{◌≡◌, false, Option, None, Some, Result, Ok, List, [], ◌∷◌, ◌++◌, codes}
use Rattle.q_base.specs.declared.code.Code.TheVariants.{ParameterTypeMismatch}
use Rattle.q_base.specs.declared.errors.SqlError.{SqlError}
use Rattle.q_base.specs.declared.errors.Stop.{Stop}
use Rattle.q_base.specs.Stops.{StopsBy}
use Rattle.q_value.specs.declared.value.SqlType.{SqlType}
use Rattle.q_value.specs.declared.value.SqlType.TheVariants as kind
use Rattle.q_value.specs.Values.{type_name}
use Rattle.query_tree.specs.declared.target.CompareOp.TheVariants as compare
use Rattle.query_tree.specs.declared.target.Target.{Target, out-Target}
use Rattle.query_tree.specs.declared.target.Target.TheVariants as target
use Rattle.query_tree.specs.declared.target.Target.TheOpen.{Target-F}
use Rattle.query_tree.specs.declared.target.Target.TheFolds.{fold-Target}
use Rattle.query_tree.specs.Targets.{target_kind}
use Rattle.query_tree.specs.Typing.{integer_kind}
use Rattle.sql_tree.specs.declared.expr.Expr.{Expr}
use Rattle.sql_tree.specs.declared.names.ColumnRef.{ColumnRef}
use Rattle.sql_tree.specs.declared.select.RowCount.{RowCount}
use Rattle.sql_tree.specs.declared.select.RowCount.TheVariants as count
use Rattle.expr_analysis.specs.declared.node.Node.{Node}
use Rattle.expr_analysis.specs.declared.state.Allowed.{Allowed}
use Rattle.expr_analysis.specs.Analysis.{Analysis, ◌>>=◌, pure, refuse, lift}
use Rattle.expr_analysis.specs.Expressions.{meaning, operand}
use Rattle.expr_analysis.specs.Scopes.{column}
use Rattle.expr_analysis.specs.Sights.{Sight}
use Rattle.expr_analysis.specs.Nodes.{Text, naming_three, go_on, typed, given, condition_of, null_of}
use Rattle.expr_analysis.specs.Numbers.{shown_number, bigint_constant}
use Rattle.expr_analysis.specs.Params.{param}

-- ---- conjuncts

-- the parts of operands, by the function of each
abbrev pub parted : List (Target → List Target) → List Target → List Target
parted [] operands = []
parted (parts ∷ functions) [] = []
parted (parts ∷ functions) (operand ∷ operands) = parts operand ++ parted functions operands

-- one node, with the parting of each operand in its place: an AND is parted, a BETWEEN is its two comparisons, another node
-- is whole
abbrev pub node_conjuncts : Target-F (Target → List Target) → Target-F Target → Target → List Target
node_conjuncts (Target-F.And functions) (Target-F.And operands) whole = parted functions operands
node_conjuncts (Target-F.Between parts low_parts high_parts) (Target-F.Between operand low high) whole =
    target.Compare compare.GreaterEqual operand low ∷ target.Compare compare.LessEqual operand high ∷ []
node_conjuncts _ _ whole = whole ∷ []

abbrev pub conjuncts_of : Target → Target → List Target
conjuncts_of = fold-Target (Target → List Target) (λ layer whole. node_conjuncts layer (out-Target whole) whole)

-- what is left of a condition when it is parted at each AND that stands under nothing but AND
abbrev pub conjuncts : Target → List Target
conjuncts whole = conjuncts_of whole whole

-- the conjuncts of a written condition
unfoldable pub written_conjuncts : Sight → Allowed → Text → Expr → Analysis (List Target)
written_conjuncts scope place clause written =
    operand (meaning written) scope place >>= (λ n. lift (condition_of clause n) >>= (λ t. pure (conjuncts t)))

unfoldable pub condition : Sight → Allowed → Text → Option Expr → Analysis (List Target)
condition scope place clause None = pure []
condition scope place clause (Some written) = written_conjuncts scope place clause written

abbrev pub keys_from : Sight → List Target → List ColumnRef → Result (List Target) SqlError
keys_from scope found [] = Ok found
keys_from scope found (key ∷ keys) = go_on (column scope key) (λ n. go_on (typed kind.Text n) (λ t. keys_from scope (found ++ t ∷ []) keys))

-- ---- LIMIT and OFFSET

abbrev pub no_count : Text → SqlType → SqlError
no_count digits type = naming_three ParameterTypeMismatch (shown_number false digits) (type_name type) (codes "bigint")

abbrev pub StopsByCount : Text → SqlType → Stop → Type 0
StopsByCount digits type stop = StopsBy (λ e. e ≡ no_count digits type) stop

abbrev pub counted_as : Text → Target → Option SqlType → Analysis Target
counted_as digits t (Some type) = pure t
counted_as digits t None = refuse (no_count digits (target_kind t))

unfoldable pub counted : Text → Node → Analysis Target
counted digits n = given kind.Int8 n >>= (λ t. counted_as digits t (integer_kind (target_kind t)))

unfoldable pub row_count : Option RowCount → Analysis (Option Target)
row_count None = pure None
row_count (Some count.Null) = pure (Some (null_of kind.Int8))
row_count (Some (count.Number numeral)) = lift (bigint_constant numeral) >>= (λ t. pure (Some t))
row_count (Some (count.Param digits)) = param digits >>= (λ n. counted digits n >>= (λ t. pure (Some t)))
