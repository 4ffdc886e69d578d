-- How many rows are thought to be there.
use Rattle.std.specs.Prelude.{ℕ, zero, suc, ◌/◌, max, Bool, true, false, Option, None, Some, List, [], ◌∷◌, slice_get, if◌then◌else◌}
use Rattle.std.specs.Int.{div_ceil}
use Rattle.std.specs.Ordering.{is_eq}
use Rattle.q_base.specs.declared.ids.ColId.{ColId}
use Rattle.q_value.specs.declared.value.Value.{Value}
use Rattle.q_value.specs.declared.value.Value.TheVariants as value
use Rattle.q_value.specs.declared.statistics.Common.{Common}
use Rattle.q_value.specs.declared.statistics.ColumnStats.{ColumnStats}
use Rattle.q_value.specs.declared.statistics.TableStats.{TableStats}
use Rattle.q_value.specs.Order.{sort_cmp}
use Rattle.query_tree.specs.declared.target.CompareOp.{CompareOp}
use Rattle.query_tree.specs.declared.target.CompareOp.TheVariants as compare
use Rattle.query_tree.specs.declared.target.Target.{Target, out-Target}
use Rattle.query_tree.specs.declared.target.Target.TheOpen.{Target-F}
use Rattle.cost_units.specs.Tests.{Test, column_test}

-- a number of rows is 1 at least
abbrev pub one_at_least : ℕ → ℕ
one_at_least number = max 1 number

-- a page has 64 rows
abbrev pub pages_of : ℕ → ℕ
pages_of rows = one_at_least (div_ceil rows 64)

abbrev pub rows_in : TableStats → ℕ
rows_in stats = one_at_least stats.rows

-- one in so many rows
abbrev pub divided : ℕ → ℕ → ℕ
divided rows parts = one_at_least (rows / one_at_least parts)

abbrev pub third : ℕ → ℕ
third rows = one_at_least (rows / 3)

-- a third of a third and so on
abbrev pub thirds : ℕ → ℕ → ℕ
thirds rows zero = rows
thirds rows (suc conds) = thirds (third rows) conds

-- the groups, one where there are no keys, of which each condition leaves a third
abbrev pub grouped_rows : ℕ → Bool → ℕ → ℕ
grouped_rows rows has_keys having = thirds (if has_keys then one_at_least (rows / 10) else 1) having

abbrev pub unique_rows : ℕ → ℕ
unique_rows rows = one_at_least (rows / 10)

abbrev pub column_stats : TableStats → ColId → Option ColumnStats
column_stats stats column = slice_get stats.columns column.0

abbrev pub distinct_found : Option ColumnStats → ℕ
distinct_found None = 200
distinct_found (Some stats) = one_at_least stats.distinct

-- how many different values a column has
abbrev pub distinct_of : TableStats → ColId → ℕ
distinct_of stats column = distinct_found (column_stats stats column)

-- the same value, of whatever types of integers; null is the same as none
abbrev pub is_same : Value → Value → Bool
is_same value.Null right = false
is_same left right = is_eq (sort_cmp false false left right)

-- the count of a value, where it is one of the commonest
abbrev pub count_of : Value → List Common → Option ℕ
count_of sought [] = None
count_of sought (candidate ∷ common) = if is_same sought candidate.value then Some candidate.count else count_of sought common

abbrev pub common_count_node : Target-F Target → Option ColumnStats → Option ℕ
common_count_node (Target-F.Const kind constant) (Some stats) = count_of constant stats.common
common_count_node other stats = None

abbrev pub common_count : Target → Option ColumnStats → Option ℕ
common_count sought stats = common_count_node (out-Target sought) stats

abbrev pub rows_by_count : Option ℕ → ℕ → ℕ
rows_by_count None otherwise = otherwise
rows_by_count (Some count) otherwise = one_at_least count

-- how many rows hold a value in a column
abbrev pub rows_with : Test → TableStats → ℕ
rows_with test stats = rows_by_count (common_count test.value (column_stats stats test.column.column)) (divided (rows_in stats) (distinct_of stats test.column.column))

abbrev pub is_equal : CompareOp → Bool
is_equal compare.Equal = true
is_equal other = false

abbrev pub rows_of_test : Option Test → TableStats → ℕ
rows_of_test None stats = third (rows_in stats)
rows_of_test (Some test) stats = if is_equal test.op then rows_with test stats else third (rows_in stats)

-- how many rows a condition is thought to leave
abbrev pub rows_of : Target → TableStats → ℕ
rows_of cond stats = rows_of_test (column_test cond) stats
