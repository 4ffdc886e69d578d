use Rattle.std.proofs.Common.{w64, sym, ◌∙◌, rules}
use Rattle.std.proofs.lemmas.Int.{to_z-of_z}
use mir.Val.{SFits}
use Rattle.row_index.proofs.Leads.{last_is}
use Rattle.row_index.proofs.stored.last_lead_of.Goals as goal

pub returns-in-Some : goal.returns-in-Some
returns-in-Some c =
    let fits : SFits w64 c.lead.result = search rules in
    simp to_z-of_z (c.lead.ensures ∙ last_is c.args.entries.now c.in-Some.last.now (sym c.in-Some.ensures.value))
