use Rattle.std.proofs.Common.{[], get_or, sym, ap, ◌∙◌}
use Rattle.std.specs.Prelude.{unwrap_or}
use Rattle.std.proofs.lemmas.Option.{unwrap_or-slice_get}
use Rattle.row_versions.proofs.tables.Tables.slot_of.Goals as goal

pub returns : goal.returns
returns c =
    ap (λ slots. get_or slots c.args.at []) c.in_ok-heap.ensures ∙ sym (unwrap_or-slice_get c.in_ok-heap.heap.now.slots c.args.at []) ∙ ap (λ o. unwrap_or o []) (sym c.get.ensures)
