-- Which columns a grouped query may name outside aggregates.
use Rattle.std.specs.Prelude.{◌≡◌, ℕ, ◌==◌, ◌-◌, ◌&&◌, Bool, true, false, Option, None, Some, Result, Ok, Err, List, [], ◌∷◌, slice_get, if◌then◌else◌}
use Rattle.q_base.specs.declared.code.Code.TheVariants.{UngroupedColumn}
use Rattle.q_base.specs.declared.errors.SqlError.{SqlError}
use Rattle.q_base.specs.declared.errors.Stop.{Stop}
use Rattle.q_base.specs.Stops.{StopsBy}
use Rattle.q_value.specs.Conversions.{plain}
use Rattle.query_tree.specs.declared.query.SortKey.{SortKey}
use Rattle.query_tree.specs.declared.result.ResultColumn.{ResultColumn}
use Rattle.query_tree.specs.declared.target.ColumnPlace.{ColumnPlace}
use Rattle.query_tree.specs.declared.target.Target.{Target, out-Target}
use Rattle.query_tree.specs.declared.target.Target.TheOpen.{Target-F}
use Rattle.query_tree.specs.declared.target.Target.TheFolds.{fold-Target}
use Rattle.expr_analysis.specs.declared.scope.ScopeItem.{ScopeItem}
use Rattle.expr_analysis.specs.Nodes.{naming_two, go_on}
use Rattle.expr_analysis.specs.Sights.{Sight}
use Rattle.analyzer.specs.declared.outputs.Output.{Output}

abbrev pub is_column_at : {A : Type 0} → ColumnPlace → Target-F A → Bool
is_column_at column (Target-F.Column kind other) = (other.item == column.item) && (other.column.0 == column.column.0)
is_column_at column _ = false

abbrev pub is_column : Target → ColumnPlace → Bool
is_column t column = is_column_at column (out-Target t)

abbrev pub is_key : List Target → ColumnPlace → Bool
is_key [] column = false
is_key (key ∷ keys) column = if is_column key column then true else is_key keys column

abbrev pub or_else : {A : Type 0} → Option A → Option A → Option A
or_else (Some found) otherwise = Some found
or_else None otherwise = otherwise

abbrev pub first_of : {A : Type 0} → List (Option A) → Option A
first_of [] = None
first_of (found ∷ others) = or_else found (first_of others)

abbrev pub node_ungrouped : List Target → Target-F (Option ColumnPlace) → Option ColumnPlace
node_ungrouped keys (Target-F.Const kind value) = None
node_ungrouped keys (Target-F.Param kind number) = None
node_ungrouped keys (Target-F.Column kind column) = if is_key keys column then None else Some column
node_ungrouped keys (Target-F.Aggregate kind aggregate) = None
node_ungrouped keys (Target-F.Arithmetic op kind left right) = or_else left right
node_ungrouped keys (Target-F.Negate kind operand) = operand
node_ungrouped keys (Target-F.Compare op left right) = or_else left right
node_ungrouped keys (Target-F.In operand values) = or_else operand (first_of values)
node_ungrouped keys (Target-F.Between operand low high) = or_else operand (or_else low high)
node_ungrouped keys (Target-F.IsNull operand negated) = operand
node_ungrouped keys (Target-F.Not operand) = operand
node_ungrouped keys (Target-F.And operands) = first_of operands
node_ungrouped keys (Target-F.Or operands) = first_of operands

-- the first column outside aggregates that is no key
abbrev pub ungrouped : List Target → Target → Option ColumnPlace
ungrouped keys = fold-Target (Option ColumnPlace) (node_ungrouped keys)

abbrev pub column_error : ScopeItem → Option (Option ResultColumn) → SqlError
column_error item (Some (Some column)) = naming_two UngroupedColumn item.name column.name
column_error item (Some None) = plain UngroupedColumn
column_error item None = plain UngroupedColumn

abbrev pub item_error : Option ScopeItem → ℕ → SqlError
item_error (Some item) id = column_error item (slice_get item.relation.columns id)
item_error None id = plain UngroupedColumn

-- the refusal that names an item's column
abbrev pub ungrouped_column : Sight → ColumnPlace → SqlError
ungrouped_column scope column = item_error (slice_get scope.items (column.item - scope.first)) column.column.0

abbrev pub StopsByColumn : SqlError → Stop → Type 0
StopsByColumn error stop = StopsBy (λ e. e ≡ error) stop

abbrev pub target_checked : Sight → Option ColumnPlace → Result (Unit {0}) SqlError
target_checked scope None = Ok tt
target_checked scope (Some column) = Err (ungrouped_column scope column)

abbrev pub check_target : Sight → List Target → Target → Result (Unit {0}) SqlError
check_target scope keys t = target_checked scope (ungrouped keys t)

abbrev pub check_outputs : Sight → List Target → List Output → Result (Unit {0}) SqlError
check_outputs scope keys [] = Ok tt
check_outputs scope keys (output ∷ outputs) = go_on (check_target scope keys output.target) (λ _. check_outputs scope keys outputs)

abbrev pub check_having : Sight → List Target → List Target → Result (Unit {0}) SqlError
check_having scope keys [] = Ok tt
check_having scope keys (cond ∷ conds) = go_on (check_target scope keys cond) (λ _. check_having scope keys conds)

abbrev pub check_order : Sight → List Target → List SortKey → Result (Unit {0}) SqlError
check_order scope keys [] = Ok tt
check_order scope keys (key ∷ order) = go_on (check_target scope keys key.target) (λ _. check_order scope keys order)

-- of the select list, HAVING and ORDER BY
unfoldable pub check_grouped : Sight → List Target → List Output → List Target → List SortKey → Result (Unit {0}) SqlError
check_grouped scope keys outputs having order =
    go_on (check_outputs scope keys outputs) (λ _. go_on (check_having scope keys having) (λ _. check_order scope keys order))
