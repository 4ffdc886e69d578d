use Rattle.std.specs.Prelude.{Bool, true, false, Option, None, Some, List}
use Rattle.std.specs.declared.cmp.Ordering.{Ordering}
use Rattle.std.specs.Ordering.{nat_cmp, ordering_then, is_gt}
use Rattle.std.specs.Cmp.Lexicographic.{slice_cmp}
use Rattle.q_base.specs.declared.ids.SlotId.{SlotId}
use Rattle.q_value.specs.declared.value.Value.{Value}
use Rattle.q_value.specs.Order.{sort_cmp}
use Rattle.row_index.specs.declared.entries.IndexPlace.{IndexPlace}

-- the order of the values in keys: ascending, with nulls last
abbrev pub value_cmp : Value → Value → Ordering
value_cmp = sort_cmp false false

-- the order of keys: place by place, and a key before the longer ones that begin with it
abbrev pub keys_cmp : List Value → List Value → Ordering
keys_cmp = slice_cmp value_cmp

abbrev pub entry_of : List Value → SlotId → IndexPlace
entry_of key slot = record { key = key; slot = slot }

-- the order of entries: by key, and then by slot
abbrev pub entry_cmp : IndexPlace → IndexPlace → Ordering
entry_cmp left right = ordering_then (keys_cmp left.key right.key) (nat_cmp left.slot.0 right.slot.0)

-- an entry comes after the last one, if there was one
abbrev pub is_past : Option IndexPlace → IndexPlace → Bool
is_past None entry = true
is_past (Some last) entry = is_gt (entry_cmp entry last)
