-- The scans of an item, in numbers.
use Rattle.std.specs.Prelude.{ℕ, suc, ◌==◌, nat_lt, nat_le, min, Bool, true, false, not, ◌&&◌, length, Option, None, Some, List, [], ◌∷◌, slice_get, if◌then◌else◌}
use Rattle.q_base.specs.declared.ids.ColId.{ColId}
use Rattle.q_base.specs.declared.settings.Switches.{Switches}
use Rattle.q_value.specs.declared.statistics.TableStats.{TableStats}
use Rattle.query_tree.specs.declared.query.SortKey.{SortKey}
use Rattle.query_tree.specs.declared.target.Target.{Target, out-Target}
use Rattle.query_tree.specs.declared.target.Target.TheOpen.{Target-F}
use Rattle.cost_units.specs.Costs.{seq_scan_cost, index_scan_cost, charged}
use Rattle.cost_units.specs.Estimates.{rows_in, rows_of}
use Rattle.planner.specs.declared.scans.ScanFacts.{ScanFacts}
use Rattle.planner.specs.declared.scans.Least.{Least}
use Rattle.planner.specs.Served.{is_served, equal_columns}

abbrev pub is_key_node : Target-F Target → SortKey → ℕ → ColId → Bool
is_key_node (Target-F.Column kind place) key item column = (place.item == item) && (place.column.0 == column.0) && not key.desc && not key.nulls_first
is_key_node other key item column = false

-- the key is the item's column, ascending with nulls last
abbrev pub is_key_of : SortKey → ℕ → ColId → Bool
is_key_of key item column = is_key_node (out-Target key.target) key item column

abbrev pub goes_by : List SortKey → ℕ → List ColId → Bool
goes_by [] item columns = true
goes_by (key ∷ keys) item [] = false
goes_by (key ∷ keys) item (column ∷ columns) = is_key_of key item column && goes_by keys item columns

-- the keys are the first columns of an index, in order
abbrev pub delivers : List SortKey → ℕ → List ColId → Bool
delivers keys item columns = not (length keys == 0) && goes_by keys item columns

abbrev pub left_by : ℕ → List Target → TableStats → ℕ
left_by left [] stats = left
left_by left (cond ∷ conds) stats = left_by (min left (rows_of cond stats)) conds stats

-- as many rows as the strictest condition leaves
abbrev pub rows_left : TableStats → List Target → ℕ
rows_left stats conds = left_by (rows_in stats) conds stats

abbrev pub found_by : ℕ → List Target → List ColId → ℕ → TableStats → ℕ
found_by found [] columns equal stats = found
found_by found (cond ∷ conds) columns equal stats = found_by (if is_served cond columns equal then min found (rows_of cond stats) else found) conds columns equal stats

-- the rows that an index scan finds, by the conditions that it uses
abbrev pub rows_found : TableStats → List Target → List ColId → ℕ → ℕ
rows_found stats conds columns equal = found_by (rows_in stats) conds columns equal stats

abbrev pub seq_scan : TableStats → List Target → Switches → ScanFacts
seq_scan stats conds switches = record { cost = charged (seq_scan_cost (rows_in stats) (length conds)) switches.seqscan; index = None; delivers = false }

abbrev pub index_scan : ℕ → List ColId → TableStats → List Target → List SortKey → ℕ → Switches → ScanFacts
index_scan place columns stats conds keys item switches = record {
  cost = charged (index_scan_cost (rows_in stats) (rows_found stats conds columns (equal_columns columns conds)) (length conds)) switches.indexscan;
  index = Some place;
  delivers = delivers keys item columns;
}

-- the least scan, the first of equal ones, and one that costs less than the least so far
abbrev pub least_from : ℕ → Least → List ScanFacts → Least
least_from place least [] = least
least_from place least (scan ∷ scans) = least_from (suc place) (if nat_lt scan.cost least.cost then record { scan = place; cost = scan.cost } else least) scans

abbrev pub least_of : List ScanFacts → Least
least_of scans = least_from 0 (record { scan = 0; cost = 18446744073709551615 }) scans

abbrev pub kept_or : Option ScanFacts → ℕ → ℕ → ScanFacts → Option ℕ
kept_or None earlier place scan = Some place
kept_or (Some least) earlier place scan = if nat_le least.cost scan.cost then Some earlier else Some place

abbrev pub lesser : List ScanFacts → Option ℕ → ℕ → ScanFacts → Option ℕ
lesser scans None place scan = Some place
lesser scans (Some earlier) place scan = kept_or (slice_get scans earlier) earlier place scan

abbrev pub same : Bool → Bool → Bool
same true true = true
same false false = true
same left right = false

abbrev pub start_from : List ScanFacts → Bool → ℕ → Option ℕ → List ScanFacts → Option ℕ
start_from scans delivers place least [] = least
start_from scans delivers place least (scan ∷ more) = start_from scans delivers (suc place) (if same scan.delivers delivers then lesser scans least place scan else least) more

-- the place of the least scan that delivers the wanted order, or of the least that doesn't; of equal ones the first
abbrev pub least_start : List ScanFacts → Bool → Option ℕ
least_start scans delivers = start_from scans delivers 0 None scans
