use Rattle.std.specs.Prelude.{Bool, not}
use Rattle.std.specs.Ordering.{is_gt, is_lt}
use Rattle.row_index.specs.declared.cut.Cut.{Cut}
use Rattle.row_index.specs.declared.cut.Cut.TheVariants.{Entry, Past, Range}
use Rattle.row_index.specs.declared.entries.IndexPlace.{IndexPlace}
use Rattle.row_index.specs.Order.{entry_cmp}
use Rattle.row_index.specs.Ranges.{key_side}

-- an entry lies before a cut
abbrev pub is_before : Cut → IndexPlace → Bool
is_before (Entry sought) entry = is_lt (entry_cmp entry sought.now)
is_before (Past sought) entry = not (is_gt (entry_cmp entry sought.now))
is_before (Range range) entry = is_lt (key_side range.now entry.key)
