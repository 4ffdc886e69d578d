-- The rows of a query over the rows of the tables.
use Rattle.std.specs.Prelude.{ℕ, zero, suc, ℤ, pos, ◌+ℤ◌, ◌+◌, ◌^◌, nat_lt, Bool, true, false, not, ◌&&◌, List, [], ◌∷◌, ◌++◌, length, map, filter, flat_map, fold, Option, None, Some, Result, Ok, Err, if◌then◌else◌}
use Rattle.std.specs.List.{list_all}
use Rattle.std.specs.Ordering.{is_eq, is_lt, is_gt}
use Rattle.q_base.specs.declared.code.Code.{Code}
use Rattle.q_base.specs.declared.code.Code.TheVariants.{SmallintOutOfRange, IntegerOutOfRange, BigintOutOfRange}
use Rattle.q_base.specs.declared.ids.ObjId.{ObjId}
use Rattle.q_value.specs.declared.value.Value.{Value}
use Rattle.q_value.specs.declared.value.Value.TheVariants as value
use Rattle.q_value.specs.Values.{number_of}
use Rattle.q_value.specs.Order.{key_cmp, sort_cmp}
use Rattle.query_tree.specs.declared.query.Aggregate.{Aggregate}
use Rattle.query_tree.specs.declared.query.Aggregate.TheVariants as aggregate
use Rattle.query_tree.specs.declared.query.Item.{Item, out-Item}
use Rattle.query_tree.specs.declared.query.Item.TheOpen.{Item-F}
use Rattle.query_tree.specs.declared.query.Query.{Query}
use Rattle.query_tree.specs.declared.query.Relation.{Relation}
use Rattle.query_tree.specs.declared.target.Target.{Target}
use Rattle.query_tree.specs.Evaluation.{then_with, is_null, value_of, truth_of, truth_or_fault}
use Rattle.query_tree.specs.Items.{relation_of}
use Rattle.query_tree.specs.Targets.{is_fallible}

abbrev pub Row : Type 0
Row = List Value

-- what a query has: rows in an order, or too many of them to group, or the fault of a condition
pub data Meaning : Type 0 where
  listed : List Row → Meaning
  over : Meaning
  faulty : Code → Meaning

-- the rows of the tables, and the queries of the views
pub record Store : Type 0 where
  pub rows_of : ObjId → List Row
  pub view_of : ObjId → Option Query

-- ---- values

-- the value of a target that can't fault
abbrev pub value_or_null : Result Value Code → Value
value_or_null (Ok found) = found
value_or_null (Err code) = value.Null

abbrev pub plain_values : List Target → Row → Row → Row
plain_values targets params row = map (λ target. value_or_null (value_of target row params)) targets

abbrev pub is_true : Option Bool → Bool
is_true (Some true) = true
is_true _ = false

-- two values are alike where they are equal, nulls among them
abbrev pub alike : Value → Value → Bool
alike left right = is_eq (sort_cmp false false left right)

abbrev pub rows_alike : Row → Row → Bool
rows_alike [] [] = true
rows_alike (left ∷ lefts) (right ∷ rights) = alike left right && rows_alike lefts rights
rows_alike left right = false

-- the first of those alike, in order
abbrev pub firsts : {A : Type 0} → (A → A → Bool) → List A → List A
firsts same [] = []
firsts same (x ∷ xs) = x ∷ filter (λ y. not (same x y)) (firsts same xs)

-- those alike together, in order of their firsts
abbrev pub classes : {A : Type 0} → (A → A → Bool) → List A → List (List A)
classes same xs = map (λ first. filter (same first) xs) (firsts same xs)

-- ---- the product of the items

-- a row cut, or filled with nulls, to a length
abbrev pub fitted : ℕ → Row → Row
fitted zero row = []
fitted (suc length) [] = value.Null ∷ fitted length []
fitted (suc length) (v ∷ row) = v ∷ fitted length row

abbrev pub fitted_to : Relation → List Row → List Row
fitted_to relation rows = map (fitted (length relation.columns)) rows

-- the rows of an item that is a query: each projected
abbrev pub projected_item : Query → Row → Meaning → Meaning
projected_item query params (listed rows) = listed (map (plain_values query.targets params) rows)
projected_item query params over = over
projected_item query params (faulty code) = faulty code

abbrev pub view_item : (Query → Meaning) → Row → Option Query → Meaning
view_item rows params None = listed []
view_item rows params (Some query) = projected_item query params (rows query)

-- the rows of an item, where `rows` gives those of a query
abbrev pub item_rows : (Query → Meaning) → Store → Row → Item-F Item Query → Meaning
item_rows rows store params (Item-F.Table relation) = listed (fitted_to relation (store.rows_of relation.id))
item_rows rows store params (Item-F.View relation) = view_item rows params (store.view_of relation.id)
item_rows rows store params (Item-F.Derived relation block) = projected_item block params (rows block)

-- each row of the first beside each row of the others, the first slowest
abbrev pub beside : Meaning → Meaning → Meaning
beside over others = over
beside first over = over
beside (faulty code) others = faulty code
beside (listed firsts) (faulty code) = faulty code
beside (listed firsts) (listed others) = listed (flat_map (λ row. map (λ other. row ++ other) others) firsts)

abbrev pub product : List Meaning → Meaning
product [] = listed ([] ∷ [])
product (first ∷ others) = beside first (product others)

-- ---- conditions

-- the conditions that can't fault are true
abbrev pub is_candidate : List Target → Row → Row → Bool
is_candidate conds params row = list_all (λ cond. is_true (truth_of cond row params)) (filter (λ cond. not (is_fallible cond)) conds)

-- those that may fault, in the order of the text, up to the first that faults or isn't true
abbrev pub judged : List Target → Row → Row → Result Bool Code
judged [] params row = Ok true
judged (cond ∷ conds) params row = then_with (truth_or_fault (value_of cond row params)) (λ truth. if is_true truth then judged conds params row else Ok false)

abbrev pub verdict : List Target → Row → Row → Result Bool Code
verdict conds params row = judged (filter is_fallible conds) params row

-- of several faults the one that stands: the range of the narrowest type, and a division by zero only alone
abbrev pub rank : Code → ℕ
rank SmallintOutOfRange = 0
rank IntegerOutOfRange = 1
rank BigintOutOfRange = 2
rank other = 3

abbrev pub worse : Option Code → Result Bool Code → Option Code
worse found (Ok stays) = found
worse None (Err code) = Some code
worse (Some code) (Err other) = Some (if nat_lt (rank other) (rank code) then other else code)

abbrev pub fault_among : List (Result Bool Code) → Option Code
fault_among verdicts = fold worse None verdicts

abbrev pub stays : Result Bool Code → Bool
stays (Ok truth) = truth
stays (Err code) = false

abbrev pub unless_fault : Option Code → List Row → Meaning
unless_fault None rows = listed rows
unless_fault (Some code) rows = faulty code

-- the candidates that stay, unless a condition faulted on one
abbrev pub tested : List Target → Row → List Row → Meaning
tested conds params candidates = unless_fault (fault_among (map (verdict conds params) candidates)) (filter (λ row. stays (verdict conds params row)) candidates)

abbrev pub where_true : List Target → Row → Meaning → Meaning
where_true conds params over = over
where_true conds params (faulty code) = faulty code
where_true conds params (listed rows) = tested conds params (filter (is_candidate conds params) rows)

-- ---- groups

-- the values that aren't null, of a target over a group's rows
abbrev pub values_in : Target → Row → List Row → List Value
values_in argument params rows = filter (λ v. not (is_null v)) (map (λ row. value_or_null (value_of argument row params)) rows)

abbrev pub add_number : ℤ → Option ℤ → ℤ
add_number total None = total
add_number total (Some number) = total +ℤ number

-- null where there are no values
abbrev pub sum_of : List Value → Value
sum_of [] = value.Null
sum_of (v ∷ values) = value.Int8 (fold add_number (pos 0) (map number_of (v ∷ values)))

abbrev pub least : Value → List Value → Value
least found [] = found
least found (v ∷ values) = least (if is_lt (key_cmp v found) then v else found) values

abbrev pub greatest : Value → List Value → Value
greatest found [] = found
greatest found (v ∷ values) = greatest (if is_gt (key_cmp v found) then v else found) values

abbrev pub least_of : List Value → Value
least_of [] = value.Null
least_of (v ∷ values) = least v values

abbrev pub greatest_of : List Value → Value
greatest_of [] = value.Null
greatest_of (v ∷ values) = greatest v values

-- the value of an aggregate over a group's rows
abbrev pub aggregated : Row → List Row → Aggregate → Value
aggregated params rows aggregate.CountRows = value.Int8 (pos (length rows))
aggregated params rows (aggregate.Count argument) = value.Int8 (pos (length (values_in argument params rows)))
aggregated params rows (aggregate.Sum argument) = sum_of (values_in argument params rows)
aggregated params rows (aggregate.Min argument) = least_of (values_in argument params rows)
aggregated params rows (aggregate.Max argument) = greatest_of (values_in argument params rows)

-- the length of a row of the product
abbrev pub columns_of : List Item → ℕ
columns_of [] = 0
columns_of (item ∷ items) = length (relation_of item).columns + columns_of items

abbrev pub first_row : List Row → Row
first_row [] = []
first_row (row ∷ rows) = row

-- a group's row: its first row, or nulls where it has none, and then the values of the aggregates
abbrev pub group_row : Query → Row → List Row → Row
group_row query params rows = fitted (columns_of query.items) (first_row rows) ++ map (aggregated params rows) query.aggregates

-- without keys all rows are one group, also where there is none; else the groups go in order of first occurrence, and nulls
-- are alike
abbrev pub groups_of : List Target → Row → List Row → List (List Row)
groups_of [] params rows = rows ∷ []
groups_of (key ∷ keys) params rows = classes (λ one other. rows_alike (plain_values (key ∷ keys) params one) (plain_values (key ∷ keys) params other)) rows

abbrev pub grouped : Query → Row → List Row → List Row
grouped query params rows = filter (λ row. list_all (λ cond. is_true (truth_of cond row params)) query.having) (map (group_row query params) (groups_of query.keys params rows))

-- more rows than are grouped
abbrev pub are_too_many : List Row → Bool
are_too_many rows = nat_lt (2 ^ 32) (length rows)

abbrev pub where_grouped : Query → Row → Meaning → Meaning
where_grouped query params (listed rows) = if query.grouped then (if are_too_many rows then over else listed (grouped query params rows)) else listed rows
where_grouped query params over = over
where_grouped query params (faulty code) = faulty code

-- with DISTINCT one row for each row of the targets, at its first occurrence
abbrev pub where_distinct : Query → Row → Meaning → Meaning
where_distinct query params (listed rows) = listed (if query.distinct then firsts (λ one other. rows_alike (plain_values query.targets params one) (plain_values query.targets params other)) rows else rows)
where_distinct query params over = over
where_distinct query params (faulty code) = faulty code

-- ---- the rows

-- the rows of a query, over what its items give
abbrev pub rows_over : Query → Row → List Meaning → Meaning
rows_over query params sources = where_distinct query params (where_grouped query params (where_true query.conds params (product sources)))

-- the rows of a query in which views and blocks stand at most so deep; deeper ones have no rows
abbrev pub rows_within : ℕ → Store → Row → Query → Meaning
rows_within zero store params query = rows_over query params (map (λ item. item_rows (λ inner. listed []) store params (out-Item item)) query.items)
rows_within (suc depth) store params query = rows_over query params (map (λ item. item_rows (rows_within depth store params) store params (out-Item item)) query.items)

-- the greatest depth of views
abbrev pub max_depth : ℕ
max_depth = 32

abbrev pub rows : Store → Row → Query → Meaning
rows store params query = rows_within max_depth store params query
