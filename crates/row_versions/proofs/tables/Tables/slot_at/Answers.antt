use Rattle.std.proofs.Common.{[], get_or, sym, ap, ◌∙◌}
use Rattle.std.specs.Prelude.{unwrap_or}
use Rattle.std.specs.Option.{option_map_or, option_copied}
use Rattle.std.proofs.lemmas.Option.{unwrap_or-slice_get}
use Rattle.row_versions.specs.Stored.{Stored}
use Rattle.row_versions.proofs.Positions.{slots_at_get}
use Rattle.row_versions.proofs.tables.Tables.slot_at.Goals as goal

pub returns-in_err-heap : goal.returns-in_err-heap
returns-in_err-heap c =
    ap (λ slots. get_or slots c.args.place.slot []) (slots_at_get c.args.self.now c.args.place.table ∙ ap (λ o. option_map_or (λ (table : Stored). table.slots) o []) (sym c.in_err-heap.ensures))
    ∙ ap (λ o. unwrap_or (option_copied o) []) (sym c.from_residual.ensures)

pub returns : goal.returns
returns c =
    ap (λ slots. get_or slots c.args.place.slot []) (slots_at_get c.args.self.now c.args.place.table ∙ ap (λ o. option_map_or (λ (table : Stored). table.slots) o []) (sym c.in_ok-heap.ensures))
    ∙ sym (unwrap_or-slice_get c.in_ok-heap.heap.now.slots c.args.place.slot []) ∙ ap (λ o. unwrap_or o []) (sym c.get-2.ensures)
