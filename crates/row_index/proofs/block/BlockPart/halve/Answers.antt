use Rattle.std.proofs.Common.{◌/◌, ap, ◌∙◌, w64, rules}
use Rattle.std.proofs.lemmas.Int.{to_z-of_z}
use mir.Val.{SFits}
use Rattle.row_index.specs.Leads.{lead_of_last}
use Rattle.row_index.proofs.Lists.{ascending_drop, ascending_take}
use Rattle.row_index.proofs.block.BlockPart.halve.Goals as goal

pub invariant_of-result : goal.invariant_of-result
invariant_of-result c =
    let fits : SFits w64 c.last_lead_of.result = search rules in (
      ascending_drop (c.len-half.result / 2) c.self.inside.entries.items c.in-Ok.entries.items c.self.invariant.0 c.in-Ok.ensures.tail,
      simp to_z-of_z (c.last_lead_of.ensures ∙ ap lead_of_last c.as_slice-2.ensures.value),
    )

pub invariant_of-self-2 : goal.invariant_of-self-2
invariant_of-self-2 c =
    let fits : SFits w64 c.last_lead_of-self-inside.result = search rules in (
      ascending_take (c.len-half.result / 2) c.self.inside.entries.items c.split_off.new.self.items c.self.invariant.0 c.in-Ok.ensures.items,
      simp to_z-of_z (c.last_lead_of-self-inside.ensures ∙ ap lead_of_last c.as_slice.ensures.value),
    )
