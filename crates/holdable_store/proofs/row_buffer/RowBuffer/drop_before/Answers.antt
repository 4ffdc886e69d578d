use Rattle.std.proofs.Common.{rules, ◌+◌}
use Rattle.holdable_store.proofs.Positions.{kept_after}
use Rattle.holdable_store.proofs.row_buffer.RowBuffer.drop_before.Goals as goal

pub returns-clause-kept : goal.returns-clause-kept
returns-clause-kept c =
    kept_after (record { first = c.self.inside.first + c.saturating_sub-gone.result; kept = c.drop_front.new.kept.items }) c.args.self.now c.args.position (search rules)
