-- The items that an expression sees, and their columns.
use Rattle.std.specs.Prelude.{ℕ, ◌+◌, ◌-◌, ◌^◌, min, Option, None, Some, Result, Ok, Err, List, [], ◌∷◌, if◌then◌else◌}
use Rattle.std.specs.Str.{bytes_eq}
use Rattle.q_base.specs.declared.code.Code.TheVariants.{UnknownColumn, AmbiguousColumn, UnknownItemColumn, MissingFromEntry}
use Rattle.q_base.specs.declared.errors.SqlError.{SqlError}
use Rattle.q_base.specs.declared.ids.ColId.{ColId}
use Rattle.query_tree.specs.declared.result.ResultColumn.{ResultColumn}
use Rattle.query_tree.specs.declared.target.ColumnPlace.{ColumnPlace}
use Rattle.query_tree.specs.declared.target.Target.TheVariants as target
use Rattle.sql_tree.specs.declared.names.ColumnRef.{ColumnRef}
use Rattle.expr_analysis.specs.declared.node.Node.{Node}
use Rattle.expr_analysis.specs.declared.node.Node.TheVariants as node
use Rattle.expr_analysis.specs.declared.scope.Found.{Found}
use Rattle.expr_analysis.specs.declared.scope.Found.TheVariants as found
use Rattle.expr_analysis.specs.declared.scope.ScopeItem.{ScopeItem}
use Rattle.expr_analysis.specs.Sights.{Sight}
use Rattle.expr_analysis.specs.Nodes.{Text, naming, naming_two}

abbrev pub no_items : Sight
no_items = record { first = 0; items = []; width = 0 }

-- sums, no more than a u32 and a usize hold
abbrev pub next_id : ℕ → ℕ
next_id id = min (id + 1) (2 ^ 32 - 1)

infixl 20 ◌⊕◌
abbrev pub ◌⊕◌ : ℕ → ℕ → ℕ
m ⊕ n = min (m + n) (2 ^ 64 - 1)

abbrev pub place_of : ℕ → ℕ → ℕ → ColumnPlace
place_of number offset id = record { item = number; column = record { 0 = id }; place = offset ⊕ id }

-- the first column of the name, among columns from an id on
abbrev pub column_from : ℕ → ℕ → ℕ → Text → List (Option ResultColumn) → Found
column_from number offset id name [] = found.Nowhere
column_from number offset id name (None ∷ columns) = column_from number offset (next_id id) name columns
column_from number offset id name (Some column ∷ columns) =
    if bytes_eq column.name name then found.Once column.kind (place_of number offset id) else column_from number offset (next_id id) name columns

abbrev pub column_in : ℕ → ScopeItem → Text → Found
column_in number item name = column_from number item.offset 0 name item.relation.columns

abbrev pub nowhere : Found
nowhere = found.Nowhere

abbrev pub with_column : Found → Found → Found
with_column found.Nowhere column = column
with_column one found.Nowhere = one
with_column one column = found.Often

-- where a bare name stands, among items from a number on
abbrev pub found_from : Found → ℕ → Text → List ScopeItem → Found
found_from one number name [] = one
found_from one number name (item ∷ items) = found_from (with_column one (column_in number item name)) (number ⊕ 1) name items

abbrev pub bare_answer : Text → Found → Result Node SqlError
bare_answer name found.Nowhere = Err (naming UnknownColumn name)
bare_answer name (found.Once kind place) = Ok (node.Typed (target.Column kind place))
bare_answer name found.Often = Err (naming AmbiguousColumn name)

unfoldable pub bare_column : Sight → Text → Result Node SqlError
bare_column scope name = bare_answer name (found_from nowhere scope.first name scope.items)

abbrev pub own_answer : Text → Text → Found → Result Node SqlError
own_answer item name (found.Once kind place) = Ok (node.Typed (target.Column kind place))
own_answer item name _ = Err (naming_two UnknownItemColumn item name)

unfoldable pub own_column : ℕ → ScopeItem → Text → Result Node SqlError
own_column number item name = own_answer item.name name (column_in number item name)

-- the column of the first item of the name, among items from a number on
abbrev pub column_of_from : ℕ → Text → Text → List ScopeItem → Result Node SqlError
column_of_from number named name [] = Err (naming MissingFromEntry named)
column_of_from number named name (item ∷ items) = if bytes_eq item.name named then own_column number item name else column_of_from (number ⊕ 1) named name items

unfoldable pub column_of : Sight → Text → Text → Result Node SqlError
column_of scope named name = column_of_from scope.first named name scope.items

abbrev pub column_by : Sight → Option Text → Text → Result Node SqlError
column_by scope None name = bare_column scope name
column_by scope (Some named) name = column_of scope named name

unfoldable pub column : Sight → ColumnRef → Result Node SqlError
column scope written = column_by scope written.item written.name
