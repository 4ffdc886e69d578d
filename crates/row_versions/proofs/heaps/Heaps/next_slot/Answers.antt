use Rattle.std.proofs.Common.{sym, ◌∙◌}
use Rattle.row_versions.proofs.Next.{last_row, next_row}
use Rattle.row_versions.proofs.heaps.Heaps.next_slot.Goals as goal

pub returns-in_err-slot-clause-next : goal.returns-in_err-slot-clause-next
returns-in_err-slot-clause-next c =
    rw (c.from_residual.ensures, ← c.snap.view_is) (last_row c.args.self.now c.args.table c.args.from.0 c.snap.inside.moment (sym c.first_from.ensures.first ∙ c.in_err-slot.was))

pub returns-clause-next : goal.returns-clause-next
returns-clause-next c =
    rw (← c.snap.view_is) (next_row c.args.self.now c.args.table c.args.from.0 c.snap.inside.moment c.in_ok-slot.slot (sym c.first_from.ensures.first ∙ c.in_ok-slot.was))
