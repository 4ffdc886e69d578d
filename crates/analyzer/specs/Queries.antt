-- SELECT.
use Rattle.std.specs.Prelude.{◌≡◌, ℕ, suc, Bool, true, false, not, ◌||◌, ◌&&◌, is_some, nat_lt, Result, Ok, Err, List, [], ◌∷◌, ◌++◌, ◌==◌, length, codes, if◌then◌else◌}
use Rattle.std.specs.Fmt.{decimal}
use Rattle.q_base.specs.declared.code.Code.TheVariants.{LimitExceeded, UntypedParameter, OrderOrLimitInView}
use Rattle.q_base.specs.declared.errors.SqlError.{SqlError}
use Rattle.q_base.specs.declared.errors.Stop.{Stop}
use Rattle.q_base.specs.Stops.{StopsBy}
use Rattle.q_value.specs.declared.value.SqlType.{SqlType}
use Rattle.q_value.specs.Conversions.{plain}
use Rattle.query_tree.specs.declared.query.Aggregate.{Aggregate}
use Rattle.query_tree.specs.declared.target.Target.{Target}
use Rattle.query_tree.specs.Targets.{target_kind}
use Rattle.sql_tree.specs.declared.select.Limits.{Limits}
use Rattle.sql_tree.specs.declared.select.Select.{Select}
use Rattle.sql_tree.specs.declared.select.SelectCore.{SelectCore}
use Rattle.query_tree.specs.declared.query.SortKey.{SortKey}
use Rattle.sql_tree.specs.declared.select.OrderItem.{OrderItem}
use Rattle.expr_analysis.specs.declared.scope.ScopeItem.{ScopeItem}
use Rattle.expr_analysis.specs.Sights.{Sight}
use Rattle.analyzer.specs.declared.from_clause.OnPart.{OnPart}
use Rattle.analyzer.specs.declared.outputs.Output.{Output}
use Rattle.analyzer.specs.declared.queries.Heads.{Heads}
use Rattle.analyzer.specs.declared.queries.Under.{Under}
use Rattle.analyzer.specs.declared.queries.ListPart.{ListPart}
use Rattle.analyzer.specs.declared.queries.KeyPart.{KeyPart}
use Rattle.analyzer.specs.declared.queries.CutPart.{CutPart}
use Rattle.analyzer.specs.declared.queries.Parts.{Parts}
use Rattle.analyzer.specs.declared.queries.Split.{Split}
use Rattle.analyzer.specs.declared.queries.Typed.{Typed}
use Rattle.expr_analysis.specs.declared.state.Known.{Known}
use Rattle.expr_analysis.specs.declared.state.Known.TheVariants as known
use Rattle.expr_analysis.specs.declared.state.Allowed.{Allowed}
use Rattle.expr_analysis.specs.declared.state.State.{State}
use Rattle.expr_analysis.specs.Analysis.{Analysis, ◌>>=◌, pure, refuse, lift}
use Rattle.expr_analysis.specs.Calls.{calls_of_select}
use Rattle.analyzer.specs.Clauses.{condition, keys_from, row_count}
use Rattle.expr_analysis.specs.Nodes.{naming, go_on}
use Rattle.analyzer.specs.FromClause.{no_conds, on_from, query_items_from}
use Rattle.analyzer.specs.Grouping.{check_grouped}
use Rattle.analyzer.specs.Ordering.{sort_keys_from, distinct_from}
use Rattle.analyzer.specs.Outputs.{outputs_from}

-- arithmetic stands in the select list, unless the query is DISTINCT or a view's
abbrev pub list_place : Bool → Bool → Allowed
list_place view distinct = record { aggregates = true; arithmetic = not view && not distinct; in_aggregate = false }

-- and in ON and WHERE, unless the query is a view's
abbrev pub where_place : Bool → Allowed
where_place view = record { aggregates = false; arithmetic = not view; in_aggregate = false }

abbrev pub group_place : Allowed
group_place = record { aggregates = true; arithmetic = false; in_aggregate = false }

abbrev pub is_empty : {A : Type 0} → List A → Bool
is_empty xs = length xs == 0

abbrev pub outputs_of : Sight → Bool → SelectCore → Analysis (List Output)
outputs_of scope view core = outputs_from scope (list_place view core.distinct) true [] core.outputs

abbrev pub on_of : Sight → Bool → SelectCore → Analysis OnPart
on_of scope view core = on_from scope (where_place view) no_conds core.from

abbrev pub list_first : Sight → Bool → SelectCore → Analysis Heads
list_first scope view core = do
  outputs ← outputs_of scope view core
  on ← on_of scope view core
  pure (record { outputs = outputs; on = on })

abbrev pub on_first : Sight → Bool → SelectCore → Analysis Heads
on_first scope view core = do
  on ← on_of scope view core
  outputs ← outputs_of scope view core
  pure (record { outputs = outputs; on = on })

-- ON is refused before the select list, which comes first in the text
unfoldable pub read_heads : Sight → Bool → SelectCore → Analysis Heads
read_heads scope view core = λ s. if s.first then list_first scope view core s else on_first scope view core s

unfoldable pub read_list : Sight → Bool → SelectCore → Analysis ListPart
read_list scope view core = do
  heads ← read_heads scope view core
  conds ← condition scope (where_place view) (codes "WHERE") core.condition
  pure (record { outputs = heads.outputs; on = heads.on; conds = conds })

-- a view's query has no ORDER BY
unfoldable pub order_of : Sight → Bool → List Output → List OrderItem → Analysis (List SortKey)
order_of scope view outputs written =
    if view && not (is_empty written) then refuse (plain OrderOrLimitInView) else sort_keys_from scope group_place outputs [] written

unfoldable pub read_keys : Sight → Bool → Select → List Output → Analysis KeyPart
read_keys scope view select outputs = do
  keys ← lift (keys_from scope [] select.grouping.keys)
  having ← condition scope group_place (codes "HAVING") select.grouping.having
  order ← order_of scope view outputs select.order
  pure (record { keys = keys; having = having; order = order })

abbrev pub cut_of : Limits → Analysis CutPart
cut_of limits = do
  limit ← row_count limits.limit
  offset ← row_count limits.offset
  pure (record { limit = limit; offset = offset })

-- a view's query has no LIMIT and no OFFSET
unfoldable pub read_cut : Bool → Limits → Analysis CutPart
read_cut view limits = if view && (is_some limits.limit || is_some limits.offset) then refuse (plain OrderOrLimitInView) else cut_of limits

-- the least parameter without a type
abbrev pub check_params_from : ℕ → List Known → Result (Unit {0}) SqlError
check_params_from place [] = Ok tt
check_params_from place (known.Typed kind ∷ others) = check_params_from (suc place) others
check_params_from place (known.Unused ∷ others) = Err (naming UntypedParameter (decimal (suc place)))
check_params_from place (known.Untyped ∷ others) = Err (naming UntypedParameter (decimal (suc place)))

abbrev pub StopsByUntyped : ℕ → Stop → Type 0
StopsByUntyped number stop = StopsBy (λ e. e ≡ naming UntypedParameter (decimal number)) stop

unfoldable pub is_grouped : Select → List Aggregate → Bool
is_grouped select aggregates = is_some select.grouping.having || not (is_empty select.grouping.keys) || not (is_empty aggregates)

abbrev pub check_columns : Sight → Select → ListPart → KeyPart → State → Result (Unit {0}) SqlError
check_columns scope select list key s =
    if is_grouped select s.aggregates then check_grouped scope key.keys list.outputs key.having key.order else Ok tt

abbrev pub check_distinct : Bool → List Output → KeyPart → Result (Unit {0}) SqlError
check_distinct distinct outputs key = if distinct then distinct_from outputs key.order else Ok tt

abbrev pub check_known : State → Result (Unit {0}) SqlError
check_known s = if not s.first then check_params_from 0 s.known else Ok tt

abbrev pub check_width : ℕ → Result (Unit {0}) SqlError
check_width outputs = if nat_lt 128 outputs then Err (plain LimitExceeded) else Ok tt

-- the parameters and the number of outputs
unfoldable pub check_last : ℕ → State → Result (Unit {0}) SqlError
check_last outputs s = go_on (check_known s) (λ _. check_width outputs)

-- what is judged after all clauses
unfoldable pub check_select : Sight → Select → ListPart → KeyPart → State → Result (Unit {0}) SqlError
check_select scope select list key s =
    go_on (check_columns scope select list key s) (λ _. go_on (check_distinct select.core.distinct list.outputs key) (λ _. check_last (length list.outputs) s))

-- all clauses, in the order of their refusals
unfoldable pub read_parts : Sight → Bool → Select → Analysis Parts
read_parts scope view select = do
  list ← read_list scope view select.core
  key ← read_keys scope view select list.outputs
  cut ← read_cut view select.limits
  pure (record { list = list; key = key; cut = cut })

abbrev pub checked : Sight → Select → Parts → Analysis Parts
checked scope select parts = λ s. (lift (check_select scope select parts.list parts.key s) >>= (λ _. pure parts)) s

unfoldable pub read_select : Sight → Bool → Select → Analysis Parts
read_select scope view select = read_parts scope view select >>= checked scope select

-- the types of the parameters
abbrev pub types_from : List SqlType → List Known → List SqlType
types_from types [] = types
types_from types (known.Typed kind ∷ others) = types_from (types ++ kind ∷ []) others
types_from types (known.Unused ∷ others) = types_from types others
types_from types (known.Untyped ∷ others) = types_from types others

-- the targets of a select list, and the columns of its answer
abbrev pub with_output : Split → Output → Split
with_output found output = record {
  targets = found.targets ++ output.target ∷ [];
  columns = found.columns ++ record { name = output.name; kind = target_kind output.target } ∷ [];
}

abbrev pub split_from : Split → List Output → Split
split_from found [] = found
split_from found (output ∷ outputs) = split_from (with_output found output) outputs

abbrev pub under_of : List ScopeItem → OnPart → List Target → Under
under_of items on conds = record { items = query_items_from [] items on.counts; conds = on.conds ++ conds }

abbrev pub query_with : Select → Under → KeyPart → CutPart → List Aggregate → Split → Typed
query_with select under key cut aggregates found = record {
  query = record {
    items = under.items;
    conds = under.conds;
    targets = found.targets;
    grouped = is_grouped select aggregates;
    keys = key.keys;
    aggregates = aggregates;
    aggregate_calls = calls_of_select select;
    having = key.having;
    distinct = select.core.distinct;
    order = key.order;
    limit = cut.limit;
    offset = cut.offset;
  };
  columns = found.columns;
}

abbrev pub no_split : Split
no_split = record { targets = []; columns = [] }

-- the query that the parts make
unfoldable pub query_of : List ScopeItem → Select → Parts → List Aggregate → Typed
query_of items select parts aggregates =
    query_with select (under_of items parts.list.on parts.list.conds) parts.key parts.cut aggregates (split_from no_split parts.list.outputs)
