-- What INSERT and UPDATE give columns.
use Rattle.std.specs.Prelude.{Bool, true, false, ◌==◌, Option, None, Some, Result, Ok, Err, List, [], ◌∷◌, ◌++◌, map, if◌then◌else◌}
use Rattle.std.specs.Str.{bytes_eq}
use Rattle.q_base.specs.declared.code.Code.TheVariants.{UnknownRelationColumn, ColumnSpecifiedTwice, SyntaxError, ColumnTypeMismatch}
use Rattle.q_base.specs.declared.errors.SqlError.{SqlError}
use Rattle.q_value.specs.declared.value.SqlType.{SqlType}
use Rattle.q_value.specs.declared.value.Value.{Value}
use Rattle.q_value.specs.declared.value.Value.TheVariants as value
use Rattle.q_value.specs.Values.{type_name}
use Rattle.q_value.specs.Conversions.{plain}
use Rattle.query_tree.specs.declared.statement.AssignedColumn.{AssignedColumn}
use Rattle.query_tree.specs.declared.statement.Assignment.{Assignment}
use Rattle.query_tree.specs.declared.target.Target.{Target}
use Rattle.query_tree.specs.declared.target.Target.TheVariants as target
use Rattle.query_tree.specs.Targets.{target_kind}
use Rattle.sql_tree.specs.declared.expr.Expr.{Expr}
use Rattle.sql_tree.specs.declared.names.QName.{QName}
use Rattle.sql_tree.specs.declared.rows.NewValue.{NewValue}
use Rattle.sql_tree.specs.declared.rows.NewValue.TheVariants as new
use Rattle.cat_names.specs.Lookup.{written}
use Rattle.cat_core.specs.declared.entry.Column.{Column}
use Rattle.cat_core.specs.declared.entry.Entry.{Entry}
use Rattle.cat_core.specs.declared.entry.TableDef.{TableDef}
use Rattle.expr_analysis.specs.declared.state.Allowed.{Allowed}
use Rattle.expr_analysis.specs.Analysis.{Analysis, ◌>>=◌, pure, refuse}
use Rattle.expr_analysis.specs.Arguments.{is_assignable}
use Rattle.expr_analysis.specs.Expressions.{meaning, operand}
use Rattle.expr_analysis.specs.Nodes.{Text, naming, naming_two, naming_three, go_on, given}
use Rattle.expr_analysis.specs.Sights.{Sight}
use Rattle.analyzer.specs.declared.assignments.Changed.{Changed}
use Rattle.analyzer.specs.declared.assignments.NewColumn.{NewColumn}
use Rattle.analyzer.specs.Relations.{scope_item}

abbrev pub default_of : Option Value → Value
default_of (Some found) = found
default_of None = value.Null

abbrev pub new_column : Column → NewColumn
new_column column = record { column = record { id = column.id; kind = column.kind }; name = column.name; default = default_of column.default_value }

-- a table that is changed
abbrev pub changed_of : Entry → TableDef → QName → Changed
changed_of entry table name = record { items = scope_item entry name.name None [] ∷ []; written = written name; columns = map new_column table.columns }

abbrev pub column_named : Text → List NewColumn → Option NewColumn
column_named name [] = None
column_named name (column ∷ columns) = if bytes_eq column.name name then Some column else column_named name columns

abbrev pub with_found : List NewColumn → Option NewColumn → List NewColumn
with_found found (Some column) = found ++ column ∷ []
with_found found None = found

-- the columns of names
abbrev pub named_from : List NewColumn → List NewColumn → List Text → List NewColumn
named_from columns found [] = found
named_from columns found (name ∷ names) = named_from columns (with_found found (column_named name columns)) names

abbrev pub known_or_refused : Changed → Text → Option NewColumn → Result (Unit {0}) SqlError
known_or_refused changed name (Some column) = Ok tt
known_or_refused changed name None = Err (naming_two UnknownRelationColumn name changed.written)

-- the table has a column of each name
abbrev pub check_known : Changed → List Text → Result (Unit {0}) SqlError
check_known changed [] = Ok tt
check_known changed (name ∷ names) = go_on (known_or_refused changed name (column_named name changed.columns)) (λ _. check_known changed names)

abbrev pub stands_in : Text → List Text → Bool
stands_in name [] = false
stands_in name (other ∷ others) = if bytes_eq other name then true else stands_in name others

-- the first name that stands before already, among names behind others
abbrev pub repeated_from : List Text → List Text → Option Text
repeated_from before [] = None
repeated_from before (name ∷ names) = if stands_in name before then Some name else repeated_from (before ++ name ∷ []) names

abbrev pub listed_once : Option Text → Result (Unit {0}) SqlError
listed_once (Some name) = Err (naming ColumnSpecifiedTwice name)
listed_once None = Ok tt

abbrev pub set_once : Option Text → Result (Unit {0}) SqlError
set_once (Some name) = Err (plain SyntaxError)
set_once None = Ok tt

unfoldable pub check_listed : Changed → List Text → Result (Unit {0}) SqlError
check_listed changed names = go_on (check_known changed names) (λ _. listed_once (repeated_from [] names))

unfoldable pub check_set : Changed → List Text → Result (Unit {0}) SqlError
check_set changed names = go_on (check_known changed names) (λ _. set_once (repeated_from [] names))

abbrev pub assigned_columns : List NewColumn → List AssignedColumn
assigned_columns columns = map (λ column. column.column) columns

abbrev pub is_given : NewColumn → List NewColumn → Bool
is_given column [] = false
is_given column (other ∷ others) = if other.column.id.0 == column.column.id.0 then true else is_given column others

abbrev pub default_target : NewColumn → Target
default_target column = target.Const column.column.kind column.default

abbrev pub default_assignment : NewColumn → Assignment
default_assignment column = record { column = column.column; value = default_target column }

-- the defaults of the columns that aren't given
abbrev pub defaults_from : List NewColumn → List Assignment → List NewColumn → List Assignment
defaults_from given found [] = found
defaults_from given found (column ∷ columns) =
    if is_given column given then defaults_from given found columns else defaults_from given (found ++ default_assignment column ∷ []) columns

abbrev pub value_place : Allowed
value_place = record { aggregates = false; arithmetic = true; in_aggregate = false }

abbrev pub not_assignable : NewColumn → SqlType → SqlError
not_assignable column found = naming_three ColumnTypeMismatch column.name (type_name column.column.kind) (type_name found)

abbrev pub assignable_or_refused : NewColumn → Target → Bool → Analysis Target
assignable_or_refused column t true = pure t
assignable_or_refused column t false = refuse (not_assignable column (target_kind t))

unfoldable pub assigned_expr : Sight → NewColumn → Expr → Analysis Target
assigned_expr scope column expr =
    operand (meaning expr) scope value_place >>= (λ n. given column.column.kind n >>= (λ t. assignable_or_refused column t (is_assignable (target_kind t) column.column.kind)))

-- what a column is given
abbrev pub assigned : Sight → NewColumn → NewValue → Analysis Target
assigned scope column new.Default = pure (default_target column)
assigned scope column (new.Expr expr) = assigned_expr scope column expr
