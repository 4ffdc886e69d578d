use Rattle.std.proofs.Common.{◌≡◌, ◌+◌, drop}
use Rattle.std.specs.List.{prefix_len}
use Rattle.std.specs.Ordering.{is_lt}
use Rattle.row_index.specs.Order.{entry_cmp}
use Rattle.row_index.proofs.block.lesser_of.Given as goal

abbrev pub invariant-loop-place : goal.invariant-loop-place
invariant-loop-place l = l.place + prefix_len (λ entry. is_lt (entry_cmp entry l.sought)) (drop l.place l.entries) ≡ prefix_len (λ entry. is_lt (entry_cmp entry l.sought)) l.entries
