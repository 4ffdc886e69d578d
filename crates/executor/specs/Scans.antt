-- The rows that scans find in the stored tables.
use Rattle.std.specs.Prelude.{◌≡◌, ℕ, suc, ◌==◌, Bool, true, false, if◌then◌else◌, Option, None, Some, Ok, List, [], ◌∷◌, map, find, slice_get}
use Rattle.std.specs.Option.{option_map_or}
use Rattle.std.specs.Ordering.{is_eq}
use Rattle.q_base.specs.declared.ids.ObjId.{ObjId}
use Rattle.q_base.specs.declared.ids.ColId.{ColId}
use Rattle.q_value.specs.declared.value.Value.{Value}
use Rattle.q_value.specs.Order.{sort_cmp}
use Rattle.row_index.specs.declared.entries.IndexPlace.{IndexPlace}
use Rattle.row_index.specs.declared.entries.KeyRange.{KeyRange}
use Rattle.row_index.specs.Ranges.{entries_past}
use Rattle.row_versions.specs.State.{State, shown, rows_from}
use Rattle.executor.specs.declared.found.Found.{Found}
use Rattle.executor.specs.declared.scan.SeqState.{SeqState}
use Rattle.executor.specs.declared.index_scan.IndexState.{IndexState}
use Rattle.executor.specs.declared.stores.IndexRow.{IndexRow}
use Rattle.executor.specs.declared.stores.Stores.{Stores}
use Rattle.executor.specs.Lists.{Rows, kept}

-- the row of a slot
abbrev pub found_at : ℕ → List Value → Found
found_at slot row = record { row = row; slot = Some slot }

-- the rows that a table shows from a slot on, for each table and slot
abbrev pub Scan : Type 0
Scan = ObjId → ℕ → Rows

-- the rows of a table that are found along an index, behind an entry of a range
abbrev pub Along : Type 0
Along = ObjId → ObjId → KeyRange → Option IndexPlace → Rows

abbrev pub scan_of : Stores → ℕ → Scan
scan_of stores snap table from = map (λ (row : ℕ × List Value). Ok (found_at row.0 row.1)) (rows_from stores.heaps table from snap)

-- two values that are there are equal, or both null
unfoldable pub same_values : Option Value → Option Value → Bool
same_values None right = false
same_values (Some left) None = false
same_values (Some left) (Some right) = is_eq (sort_cmp false false left right)

-- the row has the value at a place of the key, in the column for that place
unfoldable pub has_at : ℕ → ColId → List Value → List Value → Bool
has_at at column row key = same_values (slice_get row column.0) (slice_get key at)

-- the row has the key from a place of the key on, in the columns from there on
abbrev pub has_key_from : ℕ → List ColId → List Value → List Value → Bool
has_key_from at [] row key = true
has_key_from at (column ∷ columns) row key = if has_at at column row key then has_key_from (suc at) columns row key else false

abbrev pub has_key : List ColId → List Value → List Value → Bool
has_key columns row key = has_key_from 0 columns row key

-- the row that an entry's slot shows, where it has the entry's key
abbrev pub entry_row : List ColId → List Value → Option (List Value) → Option (List Value)
entry_row columns key None = None
entry_row columns key (Some row) = if has_key columns row key then Some row else None

-- the rows of entries, in their order
abbrev pub with_entry_row : ℕ → Option (List Value) → Rows → Rows
with_entry_row slot None rows = rows
with_entry_row slot (Some row) rows = Ok (found_at slot row) ∷ rows

abbrev pub entry_rows : State → ℕ → ObjId → List ColId → List IndexPlace → Rows
entry_rows heaps snap table columns [] = []
entry_rows heaps snap table columns (entry ∷ entries) = with_entry_row entry.slot.0 (entry_row columns entry.key (shown heaps table entry.slot.0 snap)) (entry_rows heaps snap table columns entries)

abbrev pub index_of : ObjId → List IndexRow → Option IndexRow
index_of id rows = find (λ (row : IndexRow). row.id.0 == id.0) rows

abbrev pub along_of : Stores → ℕ → Along
along_of stores snap table index range last = option_map_or (λ (row : IndexRow). entry_rows stores.heaps snap table row.columns (entries_past range last row.index)) (index_of index stores.indexes) []

-- what is left of a scan of a table
abbrev pub seq_rest : Scan → List Value → SeqState → Rows
seq_rest scan params seq = kept seq.conds params (scan seq.table seq.from)

abbrev pub seq_left : Stores → ℕ → List Value → SeqState → Rows
seq_left stores snap params seq = seq_rest (scan_of stores snap) params seq

-- what is left of a scan along an index
abbrev pub index_rest : Along → List Value → IndexState → Rows
index_rest along params index = kept index.conds params (along index.table index.index index.range index.last)

abbrev pub index_left : Stores → ℕ → List Value → IndexState → Rows
index_left stores snap params index = index_rest (along_of stores snap) params index

-- only the place where it is changes
pub record SeqAdvances (old new : SeqState) : Type 0 where
  pub table : new.table ≡ old.table
  pub conds : new.conds ≡ old.conds

pub record IndexAdvances (old new : IndexState) : Type 0 where
  pub table : new.table ≡ old.table
  pub index : new.index ≡ old.index
  pub range : new.range ≡ old.range
  pub conds : new.conds ≡ old.conds

-- the rows of the entries of an index behind one, where the conditions are true
abbrev pub entries_left : Stores → ℕ → List Value → IndexRow → IndexState → Option IndexPlace → Rows
entries_left stores snap params row scan last = kept scan.conds params (entry_rows stores.heaps snap scan.table row.columns (entries_past scan.range last row.index))
