-- The select list.
use Rattle.std.specs.Prelude.{ℕ, Bool, true, Option, None, Some, Result, Ok, Err, List, [], ◌∷◌, ◌++◌, ◌==◌, length, codes, if◌then◌else◌}
use Rattle.std.specs.Str.{bytes_eq}
use Rattle.q_base.specs.declared.code.Code.TheVariants.{SyntaxError, MissingFromEntry}
use Rattle.q_base.specs.declared.errors.SqlError.{SqlError}
use Rattle.q_base.specs.declared.errors.Stop.{Stop}
use Rattle.q_value.specs.declared.value.SqlType.TheVariants as kind
use Rattle.q_value.specs.Answers.{Answers}
use Rattle.q_value.specs.Conversions.{plain}
use Rattle.query_tree.specs.declared.result.ResultColumn.{ResultColumn}
use Rattle.query_tree.specs.declared.target.ColumnPlace.{ColumnPlace}
use Rattle.query_tree.specs.declared.target.Target.{Target}
use Rattle.query_tree.specs.declared.target.Target.TheVariants as target
use Rattle.sql_tree.specs.declared.expr.Expr.{Expr, out-Expr}
use Rattle.sql_tree.specs.declared.expr.Expr.TheOpen.{Expr-F}
use Rattle.sql_tree.specs.declared.expr.Literal.{Literal}
use Rattle.sql_tree.specs.declared.expr.Literal.TheVariants as literal
use Rattle.sql_tree.specs.declared.select.OutputItem.{OutputItem}
use Rattle.sql_tree.specs.declared.select.OutputItem.TheVariants as item
use Rattle.expr_analysis.specs.declared.node.Node.{Node}
use Rattle.analyzer.specs.declared.outputs.Output.{Output}
use Rattle.expr_analysis.specs.declared.state.Allowed.{Allowed}
use Rattle.expr_analysis.specs.Analysis.{Analysis, ◌>>=◌, pure, lift}
use Rattle.expr_analysis.specs.Expressions.{meaning, operand}
use Rattle.expr_analysis.specs.Nodes.{Text, naming, typed, given}
use Rattle.expr_analysis.specs.Scopes.{next_id, ◌⊕◌, place_of}
use Rattle.expr_analysis.specs.Sights.{Sight}
use Rattle.expr_analysis.specs.declared.scope.ScopeItem.{ScopeItem}

abbrev pub constant_name : Literal → Text
constant_name (literal.Bool truth) = codes "bool"
constant_name (literal.Number numeral) = codes "?column?"
constant_name (literal.Text text) = codes "?column?"
constant_name literal.Null = codes "?column?"

abbrev pub own_name : {A : Type 0} → Expr-F A → Text
own_name (Expr-F.Column column) = column.name
own_name (Expr-F.Call function argument) = function
own_name (Expr-F.CallStar function) = function
own_name (Expr-F.Literal constant) = constant_name constant
own_name _ = codes "?column?"

-- the alias, else the expression's own name
unfoldable pub output_name : Expr → Option Text → Text
output_name written (Some alias) = alias
output_name written None = own_name (out-Expr written)

abbrev pub target_by : {A : Type 0} → Bool → Expr-F A → Node → Analysis Target
target_by true (Expr-F.Param digits) n = given kind.Text n
target_by _ _ n = lift (typed kind.Text n)

-- what has no type is a text, and in a select list a parameter alone takes that type
unfoldable pub output_target : Bool → Expr → Node → Analysis Target
output_target top written n = target_by top (out-Expr written) n

unfoldable pub read_output : Sight → Allowed → Bool → Expr → Option Text → Analysis Output
read_output scope place top written alias = do
  n ← operand (meaning written) scope place
  t ← output_target top written n
  pure (record { target = t; name = output_name written alias })

abbrev pub star_refused : SqlError
star_refused = plain SyntaxError

abbrev pub star_of_refused : Text → SqlError
star_of_refused item = naming MissingFromEntry item

-- the first reading passes over a refused star
abbrev pub star : SqlError → Bool → Result (Unit {0}) SqlError
star error first = if first then Ok tt else Err error

abbrev pub StarAnswers : SqlError → Bool → Result (Unit {0}) Stop → Type 0
StarAnswers error first result = Answers (star error first) result

abbrev pub column_output : ColumnPlace → ResultColumn → Output
column_output place column = record { target = target.Column column.kind place; name = column.name }

-- the columns of an item from an id on, those that were dropped left out
abbrev pub columns_from : List Output → ℕ → ℕ → ℕ → List (Option ResultColumn) → List Output
columns_from found number offset id [] = found
columns_from found number offset id (None ∷ columns) = columns_from found number offset (next_id id) columns
columns_from found number offset id (Some column ∷ columns) =
    columns_from (found ++ column_output (place_of number offset id) column ∷ []) number offset (next_id id) columns

abbrev pub with_columns : List Output → ℕ → ScopeItem → List Output
with_columns found number item = columns_from found number item.offset 0 item.relation.columns

-- the columns of items from a number on
abbrev pub items_columns : List Output → ℕ → List ScopeItem → List Output
items_columns found number [] = found
items_columns found number (item ∷ items) = items_columns (with_columns found number item) (number ⊕ 1) items

-- the outputs with more, where a star isn't refused
abbrev pub with_star : List Output → Result (Unit {0}) SqlError → Result (List Output) SqlError
with_star found (Ok u) = Ok found
with_star found (Err error) = Err error

abbrev pub is_none : {A : Type 0} → List A → Bool
is_none xs = length xs == 0

-- `*`: the columns of all items
unfoldable pub all_columns : Bool → Sight → List Output → Result (List Output) SqlError
all_columns first scope found =
    if is_none scope.items then with_star found (star star_refused first) else Ok (items_columns found scope.first scope.items)

-- `t.*`: the columns of the first item of the name, among items from a number on
abbrev pub columns_of_from : Bool → ℕ → Text → List Output → List ScopeItem → Result (List Output) SqlError
columns_of_from first number named found [] = with_star found (star (star_of_refused named) first)
columns_of_from first number named found (item ∷ items) =
    if bytes_eq item.name named then Ok (with_columns found number item) else columns_of_from first (number ⊕ 1) named found items

unfoldable pub all_columns_of : Bool → Sight → Text → List Output → Result (List Output) SqlError
all_columns_of first scope named found = columns_of_from first scope.first named found scope.items

abbrev pub outputs_from : Sight → Allowed → Bool → List Output → List OutputItem → Analysis (List Output)
outputs_from scope place top found [] = pure found
outputs_from scope place top found (item.Expr written alias ∷ items) =
    read_output scope place top written alias >>= (λ o. outputs_from scope place top (found ++ o ∷ []) items)
outputs_from scope place top found (item.All ∷ items) =
    λ s. (lift (all_columns s.first scope found) >>= (λ more. outputs_from scope place top more items)) s
outputs_from scope place top found (item.AllOf named ∷ items) =
    λ s. (lift (all_columns_of s.first scope named found) >>= (λ more. outputs_from scope place top more items)) s
