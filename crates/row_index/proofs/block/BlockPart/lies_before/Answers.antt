use Rattle.std.proofs.Common.{false, sym, ap, ◌∙◌, subst, w64, rules}
use Rattle.std.proofs.lemmas.Int.{to_z-of_z}
use mir.Val.{SFits}
use Rattle.std.specs.List.{list_all}
use Rattle.row_index.specs.Cuts.{is_before}
use Rattle.row_index.specs.declared.entries.IndexPlace.{IndexPlace}
use Rattle.row_index.specs.Entries.{IsAscending}
use Rattle.row_index.specs.Leads.{key_lead, lead_of_last}
use Rattle.row_index.proofs.Cuts.{before_down}
use Rattle.row_index.proofs.Leads.{last_is}
use Rattle.row_index.proofs.Lists.{all_by_last}
use Rattle.row_index.proofs.block.BlockPart.lies_before.Goals as goal

pub comes_after-requires : goal.comes_after-requires
comes_after-requires c =
    let fits : SFits w64 c.self.inside.last_lead = search rules in
    simp to_z-of_z
    (c.self.invariant.1
    ∙ ap lead_of_last (sym c.deref.ensures.value)
    ∙ sym (last_is c.deref.result.now c.in-Some.last.now (sym c.in-Some.ensures.value))
    ∙ ap (λ (entry : IndexPlace). key_lead entry.key) (sym c.entry.ensures))

pub returns-in-Some : goal.returns-in-Some
returns-in-Some c =
    let up = subst IsAscending (sym c.deref.ensures.value) c.self.invariant.0 in
    let down = before_down (c.orders.ensures.sorts false false) c.args.cut.now in
    c.comes_after.ensures
    ∙ ap (is_before c.args.cut.now) c.entry.ensures
    ∙ all_by_last (is_before c.args.cut.now) down c.deref.result.now up c.in-Some.last.now (sym c.in-Some.ensures.value)
    ∙ ap (λ xs. list_all (is_before c.args.cut.now) xs) (c.deref.ensures.value ∙ c.self.view_is)
