use Rattle.std.proofs.Common.{◌≡◌, true, false, insert, sym, ap, ◌∙◌, subst, w64, rules}
use Rattle.std.proofs.lemmas.Int.{to_z-of_z}
use mir.Val.{SFits}
use Rattle.std.specs.List.{slice_get}
use Rattle.row_index.specs.Entries.{IsAscending, is_at, with_entry}
use Rattle.row_index.specs.Leads.{lead_of_last}
use Rattle.row_index.proofs.Edits.{ascending_with, with_entry_new, with_entry_there}
use Rattle.row_index.proofs.block.BlockPart.add.Goals as goal

inserted : (c : goal.After-self-1) → c.insert.new.self.items ≡ with_entry c.args.entry c.args.self.now
inserted c =
    let absent : is_at c.sought-sought.result (slice_get c.args.self.now c.place_for-place.result) ≡ false = search rules in
    c.in_ok-insert.ensures.items
    ∙ ap (λ xs. insert xs c.place_for-place.result c.args.entry) c.self.view_is
    ∙ ap (insert c.args.self.now c.place_for-place.result) (sym c.sought-sought.ensures)
    ∙ sym (with_entry_new c.sought-sought.result c.args.self.now c.place_for-place.result c.place_for-place.ensures.within c.place_for-place.ensures.parted absent)
    ∙ ap (λ entry. with_entry entry c.args.self.now) c.sought-sought.ensures

pub invariant_of-self-then-not-has_at : goal.invariant_of-self-then-not-has_at
invariant_of-self-then-not-has_at c =
    let fits : SFits w64 c.last_lead_of-self-inside.result = search rules in (
      subst IsAscending (sym (inserted c)) (ascending_with (c.orders.ensures.sorts false false) c.args.entry c.args.self.now (subst IsAscending c.self.view_is c.self.invariant.0)),
      simp to_z-of_z (c.last_lead_of-self-inside.ensures ∙ ap lead_of_last c.as_slice.ensures.value),
    )

pub returns-in_ok-insert-clause-ok : goal.returns-in_ok-insert-clause-ok
returns-in_ok-insert-clause-ok c = inserted c

pub returns-else-not-has_at-clause-ok : goal.returns-else-not-has_at-clause-ok
returns-else-not-has_at-clause-ok c =
    let there : is_at c.sought-sought.result (slice_get c.args.self.now c.place_for-place.result) ≡ true = search rules in
    sym (with_entry_there c.sought-sought.result c.args.self.now c.place_for-place.result c.place_for-place.ensures.within c.place_for-place.ensures.parted there)
    ∙ ap (λ entry. with_entry entry c.args.self.now) c.sought-sought.ensures
