-- The analysis of a statement.
use Rattle.std.specs.Prelude.{◌≡◌, Bool, true, false, Option, None, Some, Result, Ok, Err, List, [], ◌∷◌, if◌then◌else◌}
use Rattle.q_base.specs.declared.errors.SqlError.{SqlError}
use Rattle.q_base.specs.declared.ids.ObjId.{ObjId}
use Rattle.q_base.specs.declared.errors.Stop.{Stop}
use Rattle.q_base.specs.declared.errors.Stop.TheVariants.{Sql, NoMemory}
use Rattle.q_value.specs.declared.value.SqlType.{SqlType}
use Rattle.query_tree.specs.declared.query.Relation.{Relation}
use Rattle.query_tree.specs.declared.statement.Delete.{Delete}
use Rattle.query_tree.specs.declared.statement.Insert.{Insert}
use Rattle.query_tree.specs.declared.statement.Update.{Update}
use Rattle.query_tree.specs.declared.statement.Bound.{Bound}
use Rattle.query_tree.specs.declared.statement.Bound.TheVariants as bound
use Rattle.query_tree.specs.declared.result.ResultColumn.{ResultColumn}
use Rattle.query_tree.specs.declared.result.ResultType.{ResultType}
use Rattle.sql_tree.specs.declared.names.QName.{QName}
use Rattle.sql_tree.specs.declared.rows.DeleteTree.{DeleteTree}
use Rattle.sql_tree.specs.declared.rows.InsertTree.{InsertTree}
use Rattle.sql_tree.specs.declared.rows.UpdateTree.{UpdateTree}
use Rattle.sql_tree.specs.declared.select.FromChain.{FromChain}
use Rattle.sql_tree.specs.declared.select.Select.{Select}
use Rattle.sql_tree.specs.declared.statement.Statement.{Statement}
use Rattle.sql_tree.specs.declared.statement.Statement.TheVariants as statement_of
use Rattle.expr_analysis.specs.declared.scope.ScopeItem.{ScopeItem}
use Rattle.expr_analysis.specs.declared.state.Known.{Known}
use Rattle.expr_analysis.specs.declared.state.State.{State}
use Rattle.expr_analysis.specs.Analysis.{Outcome, Analysis, start, state_after}
use Rattle.expr_analysis.specs.Nodes.{go_on}
use Rattle.expr_analysis.specs.Sights.{Sight}
use Rattle.analyzer.specs.declared.assignments.Changed.{Changed}
use Rattle.analyzer.specs.declared.assignments.NewColumn.{NewColumn}
use Rattle.analyzer.specs.declared.changes.DeleteParts.{DeleteParts}
use Rattle.analyzer.specs.declared.changes.InsertParts.{InsertParts}
use Rattle.analyzer.specs.declared.changes.UpdateParts.{UpdateParts}
use Rattle.analyzer.specs.declared.outputs.Output.{Output}
use Rattle.analyzer.specs.declared.queries.Parts.{Parts}
use Rattle.analyzer.specs.declared.queries.Typed.{Typed}
use Rattle.analyzer.specs.declared.statements.Analysed.{Analysed}
use Rattle.analyzer.specs.declared.statements.Returned.{Returned}
use Rattle.analyzer.specs.Assignments.{assigned_columns, defaults_from}
use Rattle.analyzer.specs.Changes.{given_columns, set_columns, read_insert, read_update, read_delete}
use Rattle.analyzer.specs.FromClause.{ids_of}
use Rattle.analyzer.specs.Queries.{read_select, query_of, types_from, is_empty, split_from, no_split}
use Rattle.analyzer.specs.Relations.{width_of}

-- an analysed statement, the objects of its relation names, the types of its parameters and of its answer
pub record Found : Type 0 where
  pub bound : Bound
  pub ids : List ObjId
  pub params : List SqlType
  pub result : ResultType

abbrev pub seen : Analysed → Found
seen a = record { bound = a.bound.value; ids = a.ids; params = a.params; result = a.result }

-- a call gives what is expected, or stops for want of memory
abbrev pub AnalysedAs : Result Found SqlError → Result Analysed Stop → Type 0
AnalysedAs expected (Ok a) = expected ≡ Ok (seen a)
AnalysedAs expected (Err (Sql error)) = expected ≡ Err error
AnalysedAs expected (Err NoMemory) = Unit {0}

-- ---- two readings

abbrev pub ended : State → State
ended s = record s { first = false; aggregates = [] }

-- the first reading settles the types of the parameters, and is forgotten but for these
abbrev pub settled : {A : Type 0} → Analysis A → State → State
settled reading s = ended (state_after (reading s))

abbrev pub second : {A : Type 0} → Analysis A → State → State
second reading s = if s.first then settled reading s else s

unfoldable pub twice : {A : Type 0} → Analysis A → Analysis A
twice reading = λ s. reading (second reading s)

abbrev pub found_by : {A : Type 0} → (A → State → Found) → Outcome A → Result Found SqlError
found_by f (Ok p) = Ok (f p.0 p.1)
found_by f (Err q) = Err q.0

-- ---- SELECT

-- all items of a statement
abbrev pub all_items : List ScopeItem → Sight
all_items items = record { first = 0; items = items; width = width_of items }

abbrev pub found_of : Bound → List ObjId → List Known → Option (List ResultColumn) → Found
found_of bound ids known columns = record { bound = bound; ids = ids; params = types_from [] known; result = record { columns = columns } }

abbrev pub select_found : List ScopeItem → State → Typed → Found
select_found items s typed = found_of (bound.Select typed.query) (ids_of items) s.known (Some typed.columns)

abbrev pub finished_select : List ScopeItem → Select → Parts → State → Found
finished_select items written parts s = select_found items s (query_of items written parts s.aggregates)

abbrev pub selected : Option (List SqlType) → List ScopeItem → Bool → Select → Result Found SqlError
selected declared items view written =
    found_by (finished_select items written) (twice (read_select (all_items items) view written) (start declared))

-- ---- changes

abbrev pub no_returned : Returned
no_returned = record { targets = []; columns = None }

abbrev pub some_returned : List Output → Returned
some_returned outputs = record { targets = (split_from no_split outputs).targets; columns = Some (split_from no_split outputs).columns }

-- without RETURNING a change gives no rows
unfoldable pub returned : List Output → Returned
returned outputs = if is_empty outputs then no_returned else some_returned outputs

abbrev pub no_relation : Relation
no_relation = record { id = record { 0 = 0 }; name = []; alias = None; columns = []; on_conds = 0 }

-- the relation of the one item
abbrev pub relation_in : List ScopeItem → Relation
relation_in (item ∷ items) = item.relation
relation_in [] = no_relation

abbrev pub insert_of : Changed → List NewColumn → InsertParts → Returned → Insert
insert_of changed given parts returning = record {
  table = relation_in changed.items;
  written = changed.written;
  columns = assigned_columns given;
  rows = parts.rows;
  defaults = defaults_from given [] changed.columns;
  returning = returning.targets;
}

abbrev pub change_found : Bound → Changed → List Known → List Output → Found
change_found bound changed known outputs = found_of bound ((relation_in changed.items).id ∷ []) known (returned outputs).columns

abbrev pub finished_insert : Changed → List NewColumn → InsertParts → List Known → Found
finished_insert changed given parts known =
    change_found (bound.Insert (insert_of changed given parts (returned parts.returning))) changed known parts.returning

abbrev pub update_of : Changed → UpdateParts → Returned → Update
update_of changed parts returning = record {
  table = relation_in changed.items;
  written = changed.written;
  assignments = parts.assignments;
  conds = parts.conds;
  returning = returning.targets;
}

abbrev pub finished_update : Changed → UpdateParts → List Known → Found
finished_update changed parts known = change_found (bound.Update (update_of changed parts (returned parts.returning))) changed known parts.returning

abbrev pub delete_of : Changed → DeleteParts → Returned → Delete
delete_of changed parts returning = record { table = relation_in changed.items; conds = parts.conds; returning = returning.targets }

abbrev pub finished_delete : Changed → DeleteParts → List Known → Found
finished_delete changed parts known = change_found (bound.Delete (delete_of changed parts (returned parts.returning))) changed known parts.returning

abbrev pub inserted_given : Option (List SqlType) → Changed → InsertTree → List NewColumn → Result Found SqlError
inserted_given declared changed written given =
    found_by (λ parts s. finished_insert changed given parts s.known) (twice (read_insert changed.items given written) (start declared))

abbrev pub inserted : Option (List SqlType) → Changed → InsertTree → Result Found SqlError
inserted declared changed written = go_on (given_columns changed written) (inserted_given declared changed written)

abbrev pub updated_given : Option (List SqlType) → Changed → UpdateTree → List NewColumn → Result Found SqlError
updated_given declared changed written columns =
    found_by (λ parts s. finished_update changed parts s.known) (twice (read_update changed.items columns written) (start declared))

abbrev pub updated : Option (List SqlType) → Changed → UpdateTree → Result Found SqlError
updated declared changed written = go_on (set_columns changed written.assignments) (updated_given declared changed written)

abbrev pub deleted : Option (List SqlType) → Changed → DeleteTree → Result Found SqlError
deleted declared changed written =
    found_by (λ parts s. finished_delete changed parts s.known) (twice (read_delete changed.items written) (start declared))

-- ---- any statement

-- what the relation names of a statement mean where it is analysed: the items of FROM, and a changed table
pub record Surroundings : Type 0 where
  pub items : List FromChain → Result (List ScopeItem) SqlError
  pub changed : QName → Result Changed SqlError

-- without FROM there are no items
abbrev pub items_in : Surroundings → List FromChain → Result (List ScopeItem) SqlError
items_in place [] = Ok []
items_in place (chain ∷ chains) = place.items (chain ∷ chains)

abbrev pub select : Surroundings → Option (List SqlType) → Bool → Select → Result Found SqlError
select place declared view written = go_on (items_in place written.core.from) (λ items. selected declared items view written)

abbrev pub insert : Surroundings → Option (List SqlType) → InsertTree → Result Found SqlError
insert place declared written = go_on (place.changed written.table) (λ changed. inserted declared changed written)

abbrev pub update : Surroundings → Option (List SqlType) → UpdateTree → Result Found SqlError
update place declared written = go_on (place.changed written.table) (λ changed. updated declared changed written)

abbrev pub delete : Surroundings → Option (List SqlType) → DeleteTree → Result Found SqlError
delete place declared written = go_on (place.changed written.table) (λ changed. deleted declared changed written)

abbrev pub statement : Surroundings → Option (List SqlType) → Statement → Result Found SqlError
statement place declared (statement_of.Select written) = select place declared false written
statement place declared (statement_of.ViewSelect written) = select place declared true written
statement place declared (statement_of.Insert written) = insert place declared written
statement place declared (statement_of.Update written) = update place declared written
statement place declared (statement_of.Delete written) = delete place declared written

-- an analysis of what was found, or the stop that stood in its place
abbrev pub Follows : {A : Type 0} → (A → Result Found SqlError) → Result A Stop → Result Analysed Stop → Type 0
Follows f (Ok found) result = AnalysedAs (f found) result
Follows f (Err stop) result = result ≡ Err stop
