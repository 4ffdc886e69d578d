use Rattle.std.proofs.Common.{◌≡◌, true, false, remove, sym, ap, ◌∙◌, subst, w64, rules}
use Rattle.std.proofs.lemmas.Int.{to_z-of_z}
use mir.Val.{SFits}
use Rattle.std.specs.List.{slice_get}
use Rattle.row_index.specs.Entries.{IsAscending, is_at}
use Rattle.row_index.specs.Leads.{lead_of_last}
use Rattle.row_index.proofs.Edits.{ascending_without, without_entry_absent, without_entry_there}
use Rattle.row_index.proofs.block.BlockPart.remove.Goals as goal

pub returns-then-has_at : goal.returns-then-has_at
returns-then-has_at c =
    let there : is_at c.args.sought.now (slice_get c.args.self.now c.place_for-place.result) ≡ true = search rules in
    let up = subst IsAscending c.self.view_is c.self.invariant.0 in
    c.remove.ensures.items
    ∙ ap (λ xs. remove xs c.place_for-place.result) c.self.view_is
    ∙ sym (without_entry_there (c.orders.ensures.sorts false false) c.args.sought.now c.args.self.now c.place_for-place.result up c.place_for-place.ensures.within c.place_for-place.ensures.parted there)

pub invariant_of-self : goal.invariant_of-self
invariant_of-self c =
    let fits : SFits w64 c.last_lead_of-self-inside.result = search rules in (
      subst IsAscending (sym (returns-then-has_at c)) (ascending_without c.args.sought.now c.args.self.now (subst IsAscending c.self.view_is c.self.invariant.0)),
      simp to_z-of_z (c.last_lead_of-self-inside.ensures ∙ ap lead_of_last c.as_slice.ensures.value),
    )

pub returns-else-has_at : goal.returns-else-has_at
returns-else-has_at c =
    let absent : is_at c.args.sought.now (slice_get c.args.self.now c.place_for-place.result) ≡ false = search rules in
    let up = subst IsAscending c.self.view_is c.self.invariant.0 in
    sym (without_entry_absent (c.orders.ensures.sorts false false) c.args.sought.now c.args.self.now c.place_for-place.result up c.place_for-place.ensures.within c.place_for-place.ensures.parted absent)
