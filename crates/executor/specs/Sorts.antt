-- Rows in the order of their sort keys.
use Rattle.std.specs.Prelude.{ℕ, suc, Bool, if◌then◌else◌, Result, Ok, Err, List, [], ◌∷◌, ◌++◌}
use Rattle.std.specs.declared.cmp.Ordering.{Ordering}
use Rattle.std.specs.declared.cmp.Ordering.TheVariants.{Equal}
use Rattle.std.specs.Ordering.{ordering_then, is_lt}
use Rattle.q_base.specs.declared.code.Code.{Code}
use Rattle.q_value.specs.declared.value.Value.{Value}
use Rattle.q_value.specs.Order.{sort_cmp}
use Rattle.query_tree.specs.declared.query.SortKey.{SortKey}
use Rattle.query_tree.specs.Evaluation.{then_with, value_of, value_at}
use Rattle.executor.specs.declared.found.Found.{Found}
use Rattle.executor.specs.declared.ordered.Keyed.{Keyed}
use Rattle.executor.specs.Lists.{Rows}

-- the values of sort keys behind those found, or the first fault
abbrev pub keys_from : List Value → List SortKey → List Value → List Value → Result (List Value) Code
keys_from found [] row params = Ok found
keys_from found (key ∷ keys) row params = then_with (value_of key.target row params) (λ value. keys_from (found ++ value ∷ []) keys row params)

-- a row with the values of its sort keys
unfoldable pub with_keys : List SortKey → List Value → Found → Result Keyed Code
with_keys keys params found = then_with (keys_from [] keys found.row params) (λ values. Ok (record { keys = values; found = found }))

-- all rows of a list behind those found
abbrev pub keyed_from : List SortKey → List Value → List Keyed → Rows → Result (List Keyed) Code
keyed_from keys params rows [] = Ok rows
keyed_from keys params rows (Ok found ∷ more) = then_with (with_keys keys params found) (λ row. keyed_from keys params (rows ++ row ∷ []) more)
keyed_from keys params rows (Err code ∷ more) = Err code

-- how two lists of values compare by the sort key at a place
unfoldable pub order_at : ℕ → SortKey → List Value → List Value → Ordering
order_at at key left right = sort_cmp key.desc key.nulls_first (value_at left at) (value_at right at)

-- how two lists of values compare by the sort keys from a place on
abbrev pub order_from : ℕ → List SortKey → List Value → List Value → Ordering
order_from at [] left right = Equal
order_from at (key ∷ keys) left right = ordering_then (order_at at key left right) (order_from (suc at) keys left right)

abbrev pub order_rows : List SortKey → Keyed → Keyed → Ordering
order_rows keys left right = order_from 0 keys left.keys right.keys

-- a row comes before another one
abbrev pub comes_before : List SortKey → Keyed → Keyed → Bool
comes_before keys left right = is_lt (order_rows keys left right)

-- a row put before the first that it comes before
abbrev pub inserted : {X : Type 0} → (X → X → Bool) → X → List X → List X
inserted lt row [] = row ∷ []
inserted lt row (other ∷ others) = if lt row other then row ∷ other ∷ others else other ∷ inserted lt row others

-- the rows in order, those of which none comes before the other in the order in which they came
abbrev pub in_order : {X : Type 0} → (X → X → Bool) → List X → List X → List X
in_order lt sorted [] = sorted
in_order lt sorted (row ∷ rows) = in_order lt (inserted lt row sorted) rows

-- rows without their keys, behind those found
abbrev pub unkeyed : List Found → List Keyed → List Found
unkeyed found [] = found
unkeyed found (row ∷ rows) = unkeyed (found ++ row.found ∷ []) rows

abbrev pub sorted : List SortKey → List Keyed → List Found
sorted keys rows = unkeyed [] (in_order (comes_before keys) [] rows)

abbrev pub ordered : List SortKey → List Value → Rows → Result (List Found) Code
ordered keys params rows = then_with (keyed_from keys params [] rows) (λ found. Ok (sorted keys found))
