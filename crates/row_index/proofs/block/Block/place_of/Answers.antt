use Rattle.std.proofs.Common.{◌≡◌, true, false, sym, ◌∙◌, subst, rules}
use Rattle.std.specs.List.Sorted.{IsPartitionPoint}
use Rattle.std.proofs.lemmas.Fn.{always_returns_same}
use Rattle.row_index.specs.Cuts.{is_before}
use Rattle.row_index.specs.Entries.{IsAscending}
use Rattle.row_index.proofs.Cuts.{before_down}
use Rattle.row_index.proofs.Lists.{partitioned}
use Rattle.row_index.proofs.block.Block.place_of.Goals as goal

pub returns-clause-parted : goal.returns-clause-parted
returns-clause-parted c =
    let same = c.deref.ensures.value ∙ c.self.view_is in
    let up = subst IsAscending (sym c.deref.ensures.value) c.self.invariant.0 in
    let down = before_down (c.orders.ensures.sorts false false) c.args.cut.now in
    let parted = c.partition_point.ensures.partitioned (is_before c.args.cut.now) (always_returns_same _ _ _ (λ a r f called. (search rules, search rules))) (partitioned (is_before c.args.cut.now) down c.deref.result.now up) in
    subst (λ xs. IsPartitionPoint (λ entry. is_before c.args.cut.now entry ≡ true) (λ entry. is_before c.args.cut.now entry ≡ false) xs c.partition_point.result) same parted
