use Rattle.std.proofs.Common.{◌≡◌, ◌≤◌, true, false, length, ap, ◌∙◌, subst, sym}
use Rattle.std.specs.List.{prefix_len}
use Rattle.std.specs.List.Sorted.{IsPartitionPoint}
use Rattle.std.specs.Ordering.{is_lt}
use Rattle.row_index.specs.declared.entries.IndexPlace.{IndexPlace}
use Rattle.row_index.specs.Order.{entry_cmp}
use Rattle.row_index.specs.Entries.{IsAscending}
use Rattle.row_index.proofs.Cuts.{less_is_down}
use Rattle.row_index.proofs.Lists.{prefix_parted, prefix_within}
use Rattle.row_index.proofs.block.Block.place_for.Goals as goal

place : (c : goal.After-lesser_of) → c.lesser_of.result ≡ prefix_len (λ entry. is_lt (entry_cmp entry c.args.sought.now)) c.args.self.now
place c = c.lesser_of.ensures ∙ ap (prefix_len (λ entry. is_lt (entry_cmp entry c.args.sought.now))) (c.as_slice.ensures.value ∙ c.self.view_is)

pub returns-clause-within : goal.returns-clause-within
returns-clause-within c = subst (λ n. n ≤ length c.args.self.now) (sym (place c)) (prefix_within (λ entry. is_lt (entry_cmp entry c.args.sought.now)) c.args.self.now)

pub returns-clause-parted : goal.returns-clause-parted
returns-clause-parted c =
    subst (λ n. IsPartitionPoint (λ (entry : IndexPlace). is_lt (entry_cmp entry c.args.sought.now) ≡ true) (λ (entry : IndexPlace). is_lt (entry_cmp entry c.args.sought.now) ≡ false) c.args.self.now n) (sym (place c))
    (prefix_parted (λ entry. is_lt (entry_cmp entry c.args.sought.now)) (less_is_down (c.orders.ensures.sorts false false) c.args.sought.now) c.args.self.now (subst IsAscending c.self.view_is c.self.invariant.0))
