use Rattle.std.proofs.Common.{[], sym, ap, ◌∙◌}
use Rattle.std.specs.Option.{option_map_or}
use Rattle.row_versions.specs.Stored.{Stored, slots_at}
use Rattle.row_versions.proofs.Positions.{slots_at_get}
use Rattle.row_versions.proofs.tables.Tables.heap_of.Goals as goal

pub returns : goal.returns
returns c =
    ap (λ o. option_map_or (λ t. slots_at t c.args.self.now) o []) (sym c.in_ok-table.ensures) ∙ slots_at_get c.args.self.now c.in_ok-table.table ∙ ap (λ o. option_map_or (λ (heap : Stored). heap.slots) o []) (sym c.get.ensures)
