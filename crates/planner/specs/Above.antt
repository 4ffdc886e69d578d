-- What the nodes above the joins of a block are thought to cost and to give.
use Rattle.std.specs.Prelude.{ℕ, ◌==◌, Bool, not, ◌&&◌, ◌||◌, length, List, map, is_some, if◌then◌else◌}
use Rattle.q_base.specs.declared.settings.Switches.{Switches}
use Rattle.query_tree.specs.declared.query.Query.{Query}
use Rattle.query_tree.specs.declared.target.Target.{Target}
use Rattle.plan_tree.specs.declared.node.Cut.{Cut}
use Rattle.plan_tree.specs.declared.node.Estimate.{Estimate}
use Rattle.plan_tree.specs.declared.node.GroupNode.{GroupNode}
use Rattle.plan_tree.specs.declared.node.Node.{Node}
use Rattle.plan_tree.specs.declared.node.Node.TheVariants as node
use Rattle.plan_tree.specs.Costs.{estimate_of}
use Rattle.cost_units.specs.Costs.{check_cost, aggregate_cost, unique_cost, sort_cost, charged}
use Rattle.cost_units.specs.Estimates.{thirds, grouped_rows, unique_rows}
use Rattle.planner.specs.Changed.{Changing, changed, some_changed, changed_aggregate, changed_key}

-- a Check of so many conditions, each of which leaves a third
abbrev pub checked : Estimate → ℕ → Estimate
checked input conds = record { cost = check_cost input.cost input.rows conds; rows = thirds input.rows conds }

abbrev pub has_keys : Query → Bool
has_keys query = not (length query.keys == 0)

abbrev pub aggregated : Estimate → Query → Estimate
aggregated input query = record { cost = aggregate_cost input.cost input.rows query.aggregate_calls; rows = grouped_rows input.rows (has_keys query) (length query.having) }

abbrev pub unique : Estimate → Estimate
unique input = record { cost = unique_cost input.cost input.rows; rows = unique_rows input.rows }

abbrev pub sorted : Estimate → Switches → Estimate
sorted input switches = record { cost = charged (sort_cost input.cost input.rows) switches.sort; rows = input.rows }

-- ORDER BY is written, and the rows don't come in its order already
abbrev pub has_sort : Query → Bool → Bool
has_sort query delivered = not (length query.order == 0) && not delivered

abbrev pub tested : Estimate → ℕ → Estimate
tested joined fallible = if fallible == 0 then joined else checked joined fallible

abbrev pub grouped : Estimate → Query → Estimate
grouped input query = if query.grouped then aggregated input query else input

abbrev pub distinct : Estimate → Query → Estimate
distinct input query = if query.distinct then unique input else input

abbrev pub ordered : Estimate → Query → Bool → Switches → Estimate
ordered input query delivered switches = if has_sort query delivered then sorted input switches else input

-- the topmost node of a block above its joined rows: a Check where conditions may fault, Aggregate where grouped,
-- Unique where DISTINCT, Sort where the order isn't delivered; a Limit changes neither number
abbrev pub topmost : Estimate → ℕ → Query → Bool → Switches → Estimate
topmost joined fallible query delivered switches = ordered (distinct (grouped (tested joined fallible) query) query) query delivered switches

-- a Check above a node where conditions may fault
abbrev pub with_check : Node → List Target → Node
with_check input fallible = if length fallible == 0 then input else node.Check (checked (estimate_of input) (length fallible)) fallible input

abbrev pub group_of : Query → Changing → GroupNode
group_of query change = record {
  keys = map (changed change) query.keys;
  aggregates = map (changed_aggregate change) query.aggregates;
  having = map (changed change) query.having;
  width = change.width;
}

abbrev pub with_groups : Node → Query → Changing → Node
with_groups input query change = if query.grouped then node.Aggregate (aggregated (estimate_of input) query) (group_of query change) input else input

abbrev pub with_unique : Node → Query → Changing → Node
with_unique input query change = if query.distinct then node.Unique (unique (estimate_of input)) (map (changed change) query.targets) input else input

abbrev pub with_sort : Node → Query → Changing → Bool → Switches → Node
with_sort input query change delivered switches = if has_sort query delivered then node.Sort (sorted (estimate_of input) switches) (map (changed_key change) query.order) input else input

-- LIMIT or OFFSET is written
abbrev pub has_cut : Query → Bool
has_cut query = is_some query.limit || is_some query.offset

abbrev pub cut_of : Query → Changing → Cut
cut_of query change = record { limit = some_changed change query.limit; offset = some_changed change query.offset }

abbrev pub with_limit : Node → Query → Changing → Node
with_limit input query change = if has_cut query then node.Limit (estimate_of input) (cut_of query change) input else input

-- Aggregate where grouped, Unique where DISTINCT, Sort where the order isn't delivered, Limit where LIMIT or OFFSET is written
abbrev pub with_upper : Node → Query → Changing → Bool → Switches → Node
with_upper tested query change delivered switches = with_limit (with_sort (with_unique (with_groups tested query change) query change) query change delivered switches) query change
