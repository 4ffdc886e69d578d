use Rattle.std.proofs.Common.{◌≡◌, take}
use Rattle.portals.proofs.cursor.copy_row.Given as goal

abbrev pub invariant-loop-value : goal.invariant-loop-value
invariant-loop-value l = l.values ≡ take l.value-index l.value-items
