use Rattle.std.proofs.Common.{reverse}
use Rattle.row_versions.proofs.Steps.{sound_table, table_rows, table_marks, table_added, table_kept}
use Rattle.row_versions.specs.State.{State}
use Rattle.row_versions.proofs.heaps.Heaps.add_table.Goals as goal

pub invariant_of-self-2 : goal.invariant_of-self-2
invariant_of-self-2 c =
    rw c.in_ok-add.ensures.ok (sound_table c.args.table c.self.inside.tables c.self.inside.moment c.self.inside.live c.self.inside.pins.items (reverse c.self.inside.log.items) c.self.inside.stale.items c.self.invariant)

pub returns-clause-added : goal.returns-clause-added
returns-clause-added c = rw c.in_ok-add.ensures.ok (table_added c.args.table c.self.inside.tables)

pub returns-clause-rows : goal.returns-clause-rows
returns-clause-rows c =
    let state : State = record { tables = c.self.inside.tables; newest = c.self.inside.moment; pins = c.self.inside.pins.items; log = reverse c.self.inside.log.items } in
    rw (c.in_ok-add.ensures.ok, ← c.self.view_is) (table_rows c.args.table state)

pub returns-clause-marks : goal.returns-clause-marks
returns-clause-marks c =
    let state : State = record { tables = c.self.inside.tables; newest = c.self.inside.moment; pins = c.self.inside.pins.items; log = reverse c.self.inside.log.items } in
    rw (c.in_ok-add.ensures.ok, ← c.self.view_is) (table_marks c.args.table state)

pub returns-clause-tables : goal.returns-clause-tables
returns-clause-tables c =
    let state : State = record { tables = c.self.inside.tables; newest = c.self.inside.moment; pins = c.self.inside.pins.items; log = reverse c.self.inside.log.items } in
    rw (c.in_ok-add.ensures.ok, ← c.self.view_is) (table_kept c.args.table state)
