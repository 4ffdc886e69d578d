-- Expressions that have a type, or take it from their place.
use Rattle.std.specs.Prelude.{ℕ, Bool, true, false, Result, Ok, Err, List, [], ◌∷◌}
use Rattle.q_base.specs.declared.code.Code.{Code}
use Rattle.q_base.specs.declared.code.Code.TheVariants.{ArgumentNotBoolean}
use Rattle.q_base.specs.declared.errors.SqlError.{SqlError}
use Rattle.q_value.specs.declared.value.SqlType.{SqlType}
use Rattle.q_value.specs.declared.value.SqlType.TheVariants as kind
use Rattle.q_value.specs.declared.value.Value.TheVariants as value
use Rattle.q_value.specs.Values.{type_name}
pub use Rattle.q_value.specs.Parse.{parsed}
use Rattle.query_tree.specs.declared.target.Target.{Target}
use Rattle.query_tree.specs.declared.target.Target.TheVariants as target
use Rattle.query_tree.specs.Targets.{target_kind}
use Rattle.sql_tree.specs.declared.expr.Literal.{Literal}
use Rattle.sql_tree.specs.declared.expr.Literal.TheVariants as written
use Rattle.expr_analysis.specs.declared.node.Node.{Node}
use Rattle.expr_analysis.specs.declared.node.Node.TheVariants as node
use Rattle.expr_analysis.specs.declared.state.State.{State}
use Rattle.expr_analysis.specs.declared.state.Known.TheVariants.{Typed}
use Rattle.expr_analysis.specs.Analysis.{Analysis, lift, noted}
use Rattle.expr_analysis.specs.Numbers.{number_constant}

abbrev pub Text : Type 0
Text = List ℕ

-- a refusal whose text names one, two or three things
abbrev pub naming : Code → Text → SqlError
naming code name = record { code = code; args = name ∷ [] }

abbrev pub naming_two : Code → Text → Text → SqlError
naming_two code first second = record { code = code; args = first ∷ second ∷ [] }

abbrev pub naming_three : Code → Text → Text → Text → SqlError
naming_three code first second third = record { code = code; args = first ∷ second ∷ third ∷ [] }

-- goes on with what was found, and else keeps the refusal
abbrev pub go_on : {A B : Type 0} → Result A SqlError → (A → Result B SqlError) → Result B SqlError
go_on (Ok found) f = f found
go_on (Err error) f = Err error

abbrev pub is_typed : Node → Bool
is_typed (node.Typed t) = true
is_typed _ = false

abbrev pub is_refused : Node → Bool
is_refused node.Refused = true
is_refused _ = false

abbrev pub truth_constant : Bool → Target
truth_constant truth = target.Const kind.Bool (value.Bool truth)

unfoldable pub literal : Literal → Result Node SqlError
literal (written.Number numeral) = go_on (number_constant numeral) (λ t. Ok (node.Typed t))
literal (written.Text text) = Ok (node.Text text)
literal written.Null = Ok node.Null
literal (written.Bool truth) = Ok (node.Typed (truth_constant truth))

abbrev pub null_of : SqlType → Target
null_of kind = target.Const kind value.Null

-- the node with a type where it has none
unfoldable pub typed : SqlType → Node → Result Target SqlError
typed kind (node.Typed t) = Ok t
typed kind (node.Text text) = go_on (parsed kind text) (λ found. Ok (target.Const kind found))
typed kind node.Null = Ok (null_of kind)
typed kind (node.First place) = Ok (null_of kind)
typed kind node.Refused = Ok (null_of kind)

-- the first use of a parameter gives it the type
abbrev pub settled : SqlType → Node → State → State
settled kind (node.First place) s = record s { known = noted place (Typed kind) s.known }
settled kind _ s = s

unfoldable pub given : SqlType → Node → Analysis Target
given kind n = λ s. lift (typed kind n) (settled kind n s)

abbrev pub boolean : Text → Target → SqlType → Result Target SqlError
boolean name t kind.Bool = Ok t
boolean name t kind = Err (naming_two ArgumentNotBoolean name (type_name kind))

-- the node in the place of a condition
unfoldable pub condition_of : Text → Node → Result Target SqlError
condition_of name n = go_on (typed kind.Bool n) (λ t. boolean name t (target_kind t))
