use Rattle.std.proofs.Common.{arith}
use Rattle.row_versions.proofs.Shown.{shown_in-back}
use Rattle.row_versions.proofs.slot.Slot.shown.Goals as goal

pub returns-then-is_shown-2 : goal.returns-then-is_shown-2
returns-then-is_shown-2 c =
    let back = shown_in-back c.self.inside.older.items c.args.moment c.len-count.result c.loop-passed.passed c.index-version.result.now c.loop-passed.invariant.count (omega arith) c.index-version.ensures in
    grind (arith, back)

pub loop-passed-preserved : goal.loop-passed-preserved
loop-passed-preserved c =
    let back = shown_in-back c.self.inside.older.items c.args.moment c.len-count.result c.loop-passed.passed c.index-version.result.now c.loop-passed.invariant.count (omega arith) c.index-version.ensures in
    record { count = c.loop-passed.invariant.count; rest = grind (arith, back) }
