use Rattle.std.proofs.Common.{reverse}
use Rattle.row_versions.proofs.Sounds.{sound_advanced}
use Rattle.row_versions.proofs.Steps.{advanced_rows, advanced_marks}
use Rattle.row_versions.specs.State.{State}
use Rattle.row_versions.proofs.heaps.Heaps.advance.Goals as goal

pub invariant_of-self : goal.invariant_of-self
invariant_of-self c = sound_advanced c.self.inside.tables c.self.inside.moment c.self.inside.live c.self.inside.pins.items (reverse c.self.inside.log.items) c.self.inside.stale.items c.self.invariant

pub returns-clause-newest : goal.returns-clause-newest
returns-clause-newest c =
    let state : State = record { tables = c.self.inside.tables; newest = c.self.inside.moment; pins = c.self.inside.pins.items; log = reverse c.self.inside.log.items } in
    rw (← c.self.view_is) (advanced_rows state c.self.invariant.dated)

pub returns-clause-marks : goal.returns-clause-marks
returns-clause-marks c =
    let state : State = record { tables = c.self.inside.tables; newest = c.self.inside.moment; pins = c.self.inside.pins.items; log = reverse c.self.inside.log.items } in
    rw (← c.self.view_is) (advanced_marks state c.self.invariant.dated)
