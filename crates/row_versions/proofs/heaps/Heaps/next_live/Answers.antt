use Rattle.row_versions.specs.State.{State, rows_from}
use Rattle.row_versions.specs.Stored.{first_of}
use Rattle.std.proofs.Common.{ℕ, ap, sym, ◌∙◌}
use Rattle.row_versions.proofs.Next.{last_row, next_row}
use Rattle.row_versions.proofs.heaps.Heaps.next_live.Goals as goal

pub returns-in_err-slot-clause-next : goal.returns-in_err-slot-clause-next
returns-in_err-slot-clause-next c =
    rw (c.from_residual.ensures) (last_row c.args.self.now c.args.table c.args.from.0 c.args.self.now.newest
    (ap (λ (snap : ℕ). first_of (rows_from c.args.self.now c.args.table c.args.from.0 snap)) (sym (ap (λ (s : State). s.newest) c.self.view_is)) ∙ sym c.first_from.ensures.first ∙ c.in_err-slot.was))

pub returns-clause-next : goal.returns-clause-next
returns-clause-next c =
    next_row c.args.self.now c.args.table c.args.from.0 c.args.self.now.newest c.in_ok-slot.slot
    (ap (λ (snap : ℕ). first_of (rows_from c.args.self.now c.args.table c.args.from.0 snap)) (sym (ap (λ (s : State). s.newest) c.self.view_is)) ∙ sym c.first_from.ensures.first ∙ c.in_ok-slot.was)
