-- Comparisons and arithmetic.
use Rattle.std.specs.Prelude.{◌≡◌, Bool, not, ◌&&◌, ◌||◌, Option, None, Some, Result, Ok, Err, codes, if◌then◌else◌}
use Rattle.q_base.specs.declared.code.Code.TheVariants.{UnknownOperator, AmbiguousOperator, UnknownMinus, AmbiguousMinus, ArithmeticNotSupported}
use Rattle.q_base.specs.declared.errors.SqlError.{SqlError}
use Rattle.q_base.specs.declared.errors.Stop.{Stop}
use Rattle.q_base.specs.Stops.{StopsBy}
use Rattle.q_value.specs.declared.value.SqlType.{SqlType}
use Rattle.q_value.specs.declared.value.SqlType.TheVariants as kind
use Rattle.q_value.specs.Values.{type_name}
use Rattle.q_value.specs.Conversions.{plain}
use Rattle.query_tree.specs.declared.target.CompareOp.{CompareOp}
use Rattle.query_tree.specs.declared.target.CompareOp.TheVariants as ordering
use Rattle.query_tree.specs.declared.target.ArithmeticOp.{ArithmeticOp}
use Rattle.query_tree.specs.declared.target.ArithmeticOp.TheVariants as sum
use Rattle.query_tree.specs.declared.target.Target.{Target}
use Rattle.query_tree.specs.declared.target.Target.TheVariants as target
use Rattle.query_tree.specs.Targets.{target_kind}
use Rattle.query_tree.specs.Typing.{integer_kind}
use Rattle.q_scalar.specs.declared.operators.Op.{Op}
use Rattle.q_scalar.specs.declared.operators.Op.TheVariants as key
use Rattle.q_scalar.specs.declared.operators.OpRow.{OpRow}
use Rattle.q_scalar.specs.Operators.{op_row}
use Rattle.sql_tree.specs.declared.expr.Comparison.{Comparison}
use Rattle.sql_tree.specs.declared.expr.Comparison.TheVariants as comparing
use Rattle.sql_tree.specs.declared.expr.Arithmetic.{Arithmetic}
use Rattle.sql_tree.specs.declared.expr.Arithmetic.TheVariants as computing
use Rattle.expr_analysis.specs.declared.node.Node.{Node}
use Rattle.expr_analysis.specs.declared.node.Node.TheVariants as node
use Rattle.expr_analysis.specs.declared.operators.Operands.{Operands}
use Rattle.expr_analysis.specs.declared.state.Allowed.{Allowed}
use Rattle.expr_analysis.specs.Analysis.{Outcome, Analysis, ◌>>=◌, pure, refuse, lift}
use Rattle.expr_analysis.specs.Nodes.{Text, naming, naming_three, typed, given, is_typed, is_refused, go_on}

abbrev pub compare_op : Comparison → CompareOp
compare_op comparing.Equal = ordering.Equal
compare_op comparing.NotEqual = ordering.NotEqual
compare_op comparing.Less = ordering.Less
compare_op comparing.LessEqual = ordering.LessEqual
compare_op comparing.Greater = ordering.Greater
compare_op comparing.GreaterEqual = ordering.GreaterEqual

abbrev pub compare_sign : Comparison → Text
compare_sign comparing.Equal = codes "="
compare_sign comparing.NotEqual = codes "<>"
compare_sign comparing.Less = codes "<"
compare_sign comparing.LessEqual = codes "<="
compare_sign comparing.Greater = codes ">"
compare_sign comparing.GreaterEqual = codes ">="

abbrev pub arithmetic_op : Arithmetic → ArithmeticOp
arithmetic_op computing.Add = sum.Add
arithmetic_op computing.Subtract = sum.Subtract
arithmetic_op computing.Multiply = sum.Multiply
arithmetic_op computing.Divide = sum.Divide

abbrev pub arithmetic_sign : Arithmetic → Text
arithmetic_sign computing.Add = codes "+"
arithmetic_sign computing.Subtract = codes "-"
arithmetic_sign computing.Multiply = codes "*"
arithmetic_sign computing.Divide = codes "/"

-- the operators as their table knows them
abbrev pub compare_key : Comparison → Op
compare_key comparing.Equal = key.Equal
compare_key comparing.NotEqual = key.NotEqual
compare_key comparing.Less = key.Less
compare_key comparing.LessEqual = key.LessEqual
compare_key comparing.Greater = key.Greater
compare_key comparing.GreaterEqual = key.GreaterEqual

abbrev pub arithmetic_key : Arithmetic → Op
arithmetic_key computing.Add = key.Add
arithmetic_key computing.Subtract = key.Subtract
arithmetic_key computing.Multiply = key.Multiply
arithmetic_key computing.Divide = key.Divide

abbrev pub pair : Target → Target → Operands
pair left right = record { left = left; right = right }

-- an operand beside one that may have been refused
abbrev pub Beside : (Target → Operands) → Result Target Stop → Result Operands Stop → Type 0
Beside pair (Ok other) result = result ≡ Ok (pair other)
Beside pair (Err stop) result = result ≡ Err stop

abbrev pub pair_typed : SqlType → Node → Node → Result Operands SqlError
pair_typed kind left right = go_on (typed kind left) (λ l. go_on (typed kind right) (λ r. Ok (pair l r)))

abbrev pub pair_given : Node → Node → Analysis Operands
pair_given left right = given kind.Text left >>= (λ l. given kind.Text right >>= (λ r. pure (pair l r)))

-- two operands without a type are texts; a refused one gives a parameter beside it no type
unfoldable pub texts : Node → Node → Analysis Operands
texts left right = if is_refused left || is_refused right then lift (pair_typed kind.Text left right) else pair_given left right

-- an operand without a type takes that of the other
unfoldable pub paired : Node → Node → Analysis Operands
paired (node.Typed left) right = given (target_kind left) right >>= (λ r. pure (pair left r))
paired left (node.Typed right) = given (target_kind right) left >>= (λ l. pure (pair l right))
paired left right = texts left right

abbrev pub no_operator : Text → SqlType → SqlType → SqlError
no_operator sign left right = naming_three UnknownOperator (type_name left) sign (type_name right)

abbrev pub StopsByNone : Text → SqlType → SqlType → Stop → Type 0
StopsByNone sign left right stop = StopsBy (λ e. e ≡ no_operator sign left right) stop

abbrev pub compared_in : Comparison → Target → Target → Option OpRow → Result Node SqlError
compared_in op left right (Some row) = Ok (node.Typed (target.Compare (compare_op op) left right))
compared_in op left right None = Err (no_operator (compare_sign op) (target_kind left) (target_kind right))

unfoldable pub compared : Comparison → Operands → Result Node SqlError
compared op operands = compared_in op operands.left operands.right (op_row (compare_key op) (target_kind operands.left) (target_kind operands.right))

unfoldable pub comparison : Comparison → Node → Node → Analysis Node
comparison op left right = paired left right >>= (λ operands. lift (compared op operands))

abbrev pub beside_in : Comparison → SqlType → Target → Option OpRow → Result Target SqlError
beside_in op kind t (Some row) = Ok t
beside_in op kind t None = Err (no_operator (compare_sign op) kind (target_kind t))

-- what an operand of the type is compared with
unfoldable pub beside : Comparison → SqlType → Node → Analysis Target
beside op kind n = given kind n >>= (λ t. lift (beside_in op kind t (op_row (compare_key op) kind (target_kind t))))

abbrev pub if_kept : Outcome Target → Outcome (Option Target)
if_kept (Ok p) = Ok (Some p.0, p.1)
if_kept (Err q) = if q.1.first then Ok (None, q.1) else Err q

-- the same, but for a refusal that the first reading passes over
unfoldable pub beside_if : Comparison → SqlType → Node → Analysis (Option Target)
beside_if op kind n = λ s. if_kept (beside op kind n s)

-- within the argument of an aggregate the aggregate alone judges arithmetic
abbrev pub has_arithmetic : Allowed → Bool
has_arithmetic allowed = allowed.arithmetic || allowed.in_aggregate

abbrev pub where_allowed : Allowed → Target → Result Node SqlError
where_allowed allowed t = if has_arithmetic allowed then Ok (node.Typed t) else Err (plain ArithmeticNotSupported)

abbrev pub computed_in : Allowed → Arithmetic → Target → Target → Option OpRow → Result Node SqlError
computed_in allowed op left right (Some row) = where_allowed allowed (target.Arithmetic (arithmetic_op op) row.result left right)
computed_in allowed op left right None = Err (no_operator (arithmetic_sign op) (target_kind left) (target_kind right))

unfoldable pub computed : Allowed → Arithmetic → Operands → Result Node SqlError
computed allowed op operands = computed_in allowed op operands.left operands.right (op_row (arithmetic_key op) (target_kind operands.left) (target_kind operands.right))

unfoldable pub arithmetic : Allowed → Arithmetic → Node → Node → Analysis Node
arithmetic allowed op left right =
    if not (is_typed left) && not (is_typed right) then refuse (naming_three AmbiguousOperator (codes "unknown") (arithmetic_sign op) (codes "unknown"))
    else (paired left right >>= (λ operands. lift (computed allowed op operands)))

abbrev pub minus_in : Allowed → Target → Option SqlType → Result Node SqlError
minus_in allowed operand (Some type) = where_allowed allowed (target.Negate type operand)
minus_in allowed operand None = Err (naming UnknownMinus (type_name (target_kind operand)))

unfoldable pub minus : Allowed → Node → Result Node SqlError
minus allowed (node.Typed operand) = minus_in allowed operand (integer_kind (target_kind operand))
minus allowed _ = Err (naming AmbiguousMinus (codes "unknown"))
