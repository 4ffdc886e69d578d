-- INSERT, UPDATE and DELETE.
use Rattle.std.specs.Prelude.{ℕ, Bool, true, false, ◌==◌, ◌&&◌, nat_le, Option, Result, Ok, Err, List, [], ◌∷◌, ◌++◌, map, take, length, codes, if◌then◌else◌}
use Rattle.q_base.specs.declared.code.Code.TheVariants.{SyntaxError}
use Rattle.q_base.specs.declared.errors.SqlError.{SqlError}
use Rattle.q_value.specs.Conversions.{plain}
use Rattle.query_tree.specs.declared.statement.Assignment.{Assignment}
use Rattle.query_tree.specs.declared.target.Target.{Target}
use Rattle.sql_tree.specs.declared.expr.Expr.{Expr}
use Rattle.sql_tree.specs.declared.rows.Assignment.{Assignment as SetClause}
use Rattle.sql_tree.specs.declared.rows.DeleteTree.{DeleteTree}
use Rattle.sql_tree.specs.declared.rows.InsertTree.{InsertTree}
use Rattle.sql_tree.specs.declared.rows.NewValue.{NewValue}
use Rattle.sql_tree.specs.declared.rows.UpdateTree.{UpdateTree}
use Rattle.sql_tree.specs.declared.select.OutputItem.{OutputItem}
use Rattle.expr_analysis.specs.declared.scope.ScopeItem.{ScopeItem}
use Rattle.expr_analysis.specs.declared.state.Allowed.{Allowed}
use Rattle.expr_analysis.specs.Analysis.{Analysis, ◌>>=◌, pure, lift}
use Rattle.expr_analysis.specs.Nodes.{Text, go_on}
use Rattle.expr_analysis.specs.Scopes.{no_items}
use Rattle.expr_analysis.specs.Sights.{Sight}
use Rattle.analyzer.specs.declared.assignments.Changed.{Changed}
use Rattle.analyzer.specs.declared.assignments.NewColumn.{NewColumn}
use Rattle.analyzer.specs.declared.changes.DeleteParts.{DeleteParts}
use Rattle.analyzer.specs.declared.changes.InsertParts.{InsertParts}
use Rattle.analyzer.specs.declared.changes.UpdateParts.{UpdateParts}
use Rattle.analyzer.specs.declared.outputs.Output.{Output}
use Rattle.analyzer.specs.Assignments.{check_listed, check_set, named_from, assigned}
use Rattle.analyzer.specs.Clauses.{condition}
use Rattle.analyzer.specs.Outputs.{outputs_from}
use Rattle.analyzer.specs.Queries.{check_last, is_empty}

abbrev pub change_place : Allowed
change_place = record { aggregates = false; arithmetic = false; in_aggregate = false }

-- the changed table as expressions see it
abbrev pub scope_of : List ScopeItem → Sight
scope_of items = record { first = 0; items = items; width = 0 }

abbrev pub judged : List Output → Analysis (List Output)
judged outputs = λ s. (lift (check_last (length outputs) s) >>= (λ _. pure outputs)) s

-- RETURNING, after which the parameters and the number of outputs are judged
unfoldable pub returning_list : List ScopeItem → List OutputItem → Analysis (List Output)
returning_list items written = outputs_from (scope_of items) change_place false [] written >>= judged

abbrev pub where_conds : List ScopeItem → Option Expr → Analysis (List Target)
where_conds items written = condition (scope_of items) change_place (codes "WHERE") written

-- ---- INSERT

abbrev pub length_of : List (List NewValue) → ℕ
length_of [] = 0
length_of (row ∷ rows) = length row

abbrev pub is_even : ℕ → List (List NewValue) → Bool
is_even count [] = true
is_even count (row ∷ rows) = if length row == count then is_even count rows else false

abbrev pub fits : ℕ → ℕ → Bool → Bool
fits count columns true = count == columns
fits count columns false = nat_le count columns

-- the tuples are of one length, which the columns hold and a written list has
unfoldable pub check_lengths : List (List NewValue) → ℕ → Bool → Result (Unit {0}) SqlError
check_lengths rows columns listed =
    if is_even (length_of rows) rows && fits (length_of rows) columns listed then Ok tt else Err (plain SyntaxError)

abbrev pub given_unlisted : List NewColumn → List (List NewValue) → Result (List NewColumn) SqlError
given_unlisted columns rows = go_on (check_lengths rows (length columns) false) (λ _. Ok (take (length_of rows) columns))

abbrev pub given_listed : List NewColumn → List Text → List (List NewValue) → Result (List NewColumn) SqlError
given_listed columns names rows = go_on (check_lengths rows (length names) true) (λ _. Ok (named_from columns [] names))

-- the columns that VALUES gives
unfoldable pub given_columns : Changed → InsertTree → Result (List NewColumn) SqlError
given_columns changed written = go_on (check_listed changed written.columns) (λ _.
    if is_empty written.columns then given_unlisted changed.columns written.rows else given_listed changed.columns written.columns written.rows)

abbrev pub row_from : List Target → List NewColumn → List NewValue → Analysis (List Target)
row_from found columns [] = pure found
row_from found [] (value ∷ values) = pure found
row_from found (column ∷ columns) (value ∷ values) = assigned no_items column value >>= (λ t. row_from (found ++ t ∷ []) columns values)

abbrev pub rows_from : List NewColumn → List (List Target) → List (List NewValue) → Analysis (List (List Target))
rows_from columns found [] = pure found
rows_from columns found (row ∷ rows) = row_from [] columns row >>= (λ ts. rows_from columns (found ++ ts ∷ []) rows)

unfoldable pub read_insert : List ScopeItem → List NewColumn → InsertTree → Analysis InsertParts
read_insert items columns written = do
  rows ← rows_from columns [] written.rows
  returning ← returning_list items written.returning
  pure (record { rows = rows; returning = returning })

-- ---- UPDATE

abbrev pub set_names : List SetClause → List Text
set_names written = map (λ clause. clause.column) written

unfoldable pub set_columns : Changed → List SetClause → Result (List NewColumn) SqlError
set_columns changed written = go_on (check_set changed (set_names written)) (λ _. Ok (named_from changed.columns [] (set_names written)))

abbrev pub assignment : NewColumn → Target → Assignment
assignment column t = record { column = column.column; value = t }

abbrev pub set_from : List ScopeItem → List Assignment → List NewColumn → List SetClause → Analysis (List Assignment)
set_from items found columns [] = pure found
set_from items found [] (clause ∷ clauses) = pure found
set_from items found (column ∷ columns) (clause ∷ clauses) =
    assigned (scope_of items) column clause.value >>= (λ t. set_from items (found ++ assignment column t ∷ []) columns clauses)

unfoldable pub read_update : List ScopeItem → List NewColumn → UpdateTree → Analysis UpdateParts
read_update items columns written = do
  assignments ← set_from items [] columns written.assignments
  conds ← where_conds items written.condition
  returning ← returning_list items written.returning
  pure (record { assignments = assignments; conds = conds; returning = returning })

-- ---- DELETE

unfoldable pub read_delete : List ScopeItem → DeleteTree → Analysis DeleteParts
read_delete items written = do
  conds ← where_conds items written.condition
  returning ← returning_list items written.returning
  pure (record { conds = conds; returning = returning })
