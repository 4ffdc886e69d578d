use Rattle.std.proofs.Common.{false, rules}
use Rattle.std.specs.List.{list_all}
use Rattle.std.proofs.lemmas.Fn.{always_returns_same}
use Rattle.row_index.specs.Cuts.{is_before}
use Rattle.row_index.proofs.Cuts.{before_down}
use Rattle.row_index.proofs.Joined.{parts_partitioned}
use Rattle.row_index.proofs.parts.part_from.Goals as goal

pub returns-clause-parted : goal.returns-clause-parted
returns-clause-parted g c =
    let down = before_down (c.orders.ensures.sorts false false) c.args.cut.now in
    c.partition_point.ensures.partitioned (λ part. list_all (is_before c.args.cut.now) (g.P.Part.entries part)) (always_returns_same _ _ _ (λ a r f called. (search rules, search rules)))
    (parts_partitioned g.P.Part.entries (is_before c.args.cut.now) down c.args.parts.now c.requires.ascending c.requires.filled)
