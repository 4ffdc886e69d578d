use Rattle.std.proofs.Common.{sym, ◌∙◌}
use Rattle.container_bench.proofs.Newest.{shown_newest}
use Rattle.container_bench.proofs.rows.update_one.Goals as goal

pub supersede-requires : goal.supersede-requires
supersede-requires c =
    let advanced = c.advance-snap.ensures in
    shown_newest c.shown_by_rows.ensures c.args.heaps.now c.advance-snap.new.self (record { 0 = 1 }) c.from.result c.advance-snap.result c.visible.result advanced.state (advanced.newest (record { 0 = 1 })) advanced.snap c.visible.ensures (sym c.is_some.ensures ∙ c.if-is_some.true)

pub returns-in_ok-supersede-clause-marks : goal.returns-in_ok-supersede-clause-marks
returns-in_ok-supersede-clause-marks c =
    λ mark stands. (c.in_ok-supersede.ensures.changes.marks mark (c.advance-snap.ensures.marks mark stands).stands).stands
