use Rattle.std.specs.Prelude.{Bool, true, false, not, ◌&&◌, ◌||◌, Option, None, Some, is_some, List, length, take, filter, slice_get, if◌then◌else◌}
use Rattle.std.specs.declared.cmp.Ordering.{Ordering}
use Rattle.std.specs.declared.cmp.Ordering.TheVariants.{Less, Equal, Greater}
use Rattle.std.specs.Ordering.{is_eq, ordering_then}
use Rattle.q_value.specs.declared.value.Value.{Value}
use Rattle.q_value.specs.declared.value.Value.TheVariants as value
use Rattle.row_index.specs.declared.entries.Edge.{Edge}
use Rattle.row_index.specs.declared.entries.IndexPlace.{IndexPlace}
use Rattle.row_index.specs.declared.entries.KeyRange.{KeyRange}
use Rattle.row_index.specs.Order.{is_past, keys_cmp, value_cmp}

-- the first values of a key tie with these
abbrev pub begins_with : List Value → List Value → Bool
begins_with values key = is_eq (keys_cmp (take (length values) key) values)

abbrev pub is_from : Bool → Ordering → Bool
is_from included Less = false
is_from included Equal = included
is_from included Greater = true

abbrev pub is_up_to : Bool → Ordering → Bool
is_up_to included Less = true
is_up_to included Equal = included
is_up_to included Greater = false

-- a value lies past the low edge, or on it where it is included
abbrev pub is_above : Option Edge → Value → Bool
is_above None value = true
is_above (Some edge) value = is_from edge.included (value_cmp value edge.value)

-- a value lies before the high edge, or on it where it is included
abbrev pub is_below : Option Edge → Value → Bool
is_below None value = true
is_below (Some edge) value = is_up_to edge.included (value_cmp value edge.value)

abbrev pub is_null : Value → Bool
is_null value.Null = true
is_null other = false

abbrev pub has_edge : KeyRange → Bool
has_edge range = is_some range.low || is_some range.high

-- there is a next value, which isn't null and lies within the edges
abbrev pub lies_within : KeyRange → Option Value → Bool
lies_within range None = false
lies_within range (Some value) = not (is_null value) && (is_above range.low value && is_below range.high value)

-- a key begins with the range's values, and where there is an edge its next value lies within
abbrev pub is_within : KeyRange → List Value → Bool
is_within range key = begins_with range.equal key && (not (has_edge range) || lies_within range (slice_get key (length range.equal)))

-- an entry of the range that comes after the last one, if there was one
abbrev pub is_next : KeyRange → Option IndexPlace → IndexPlace → Bool
is_next range last entry = is_within range entry.key && is_past last entry

-- the entries of the range that come after the last one, in order
abbrev pub entries_past : KeyRange → Option IndexPlace → List IndexPlace → List IndexPlace
entries_past range last entries = filter (is_next range last) entries

-- where a key lies to the range: before it, in it or after it
abbrev pub value_side : KeyRange → Value → Ordering
value_side range value = if not (is_above range.low value) then Less else (if is_null value || not (is_below range.high value) then Greater else Equal)

abbrev pub edged_side : KeyRange → Option Value → Ordering
edged_side range None = Less
edged_side range (Some value) = value_side range value

abbrev pub next_side : KeyRange → Option Value → Ordering
next_side range next = if has_edge range then edged_side range next else Equal

abbrev pub key_side : KeyRange → List Value → Ordering
key_side range key = ordering_then (keys_cmp (take (length range.equal) key) range.equal) (next_side range (slice_get key (length range.equal)))

-- an entry, where its key lies in the range
abbrev pub next_of : KeyRange → Option IndexPlace → Option IndexPlace
next_of range None = None
next_of range (Some entry) = if is_eq (key_side range entry.key) then Some entry else None
