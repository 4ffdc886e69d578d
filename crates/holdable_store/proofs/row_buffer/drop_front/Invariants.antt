use Rattle.std.proofs.Common.{◌≡◌, drop}
use Rattle.holdable_store.proofs.row_buffer.drop_front.Given as goal

abbrev pub invariant-loop-turn : goal.invariant-loop-turn
invariant-loop-turn l = l.kept.items ≡ drop l._turn l.fn.kept.items
