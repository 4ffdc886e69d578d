use Rattle.std.proofs.Common.{List, ap, ◌∙◌}
use Rattle.cat_core.specs.declared.stamps.StampRow.{StampRow}
use Rattle.cat_core.specs.Ages.{AreBetween}
use Rattle.cat_core.specs.Stamps.{StampsState, stamp_in}
use Rattle.cat_core.proofs.StampRows.{number, stamp_placed}
use Rattle.cat_core.proofs.stamps.Stamps.of.Goals as goal

pub returns : goal.returns
returns c =
    let slice = c.as_slice-rows.ensures.value in
    let up : AreBetween number 0 c.as_slice-rows.result.now c.self.inside.next_id = rw slice c.self.invariant in
    c.stamp_at.ensures ∙ stamp_placed _ _ _ _ up (c.place_of.ensures _ up) ∙ ap (λ (rows : List StampRow). stamp_in rows c.args.id) (slice ∙ ap (λ (s : StampsState). s.rows) c.self.view_is)
