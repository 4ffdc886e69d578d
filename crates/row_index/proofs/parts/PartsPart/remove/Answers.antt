use Rattle.std.proofs.Common.{◌≡◌, ◌<◌, ◌≤◌, false, length, sym, ap, ◌∙◌, subst, arith}
use Rattle.std.proofs.lemmas.Grind.{common_steps}
use Rattle.std.specs.Ordering.{is_lt}
use Rattle.row_index.specs.Order.{entry_cmp}
use Rattle.row_index.specs.Entries.{IsAscending, without_entry}
use Rattle.row_index.proofs.Joined.{PartsPart, without_entry_in_part, without_entry_past}
use Rattle.row_index.proofs.Edits.{ascending_without}
use Rattle.row_index.proofs.parts.PartsPart.remove.Goals as goal

pub returns-then-at-len : goal.returns-then-at-len
returns-then-at-len g c =
    let within : c.part_from-at.result < length c.self.inside.parts.items = grind (arith, common_steps) in
    let parted = subst (λ bs. PartsPart g.P.Part.entries (λ x. is_lt (entry_cmp x c.args.sought.now)) bs c.part_from-at.result) c.as_slice.ensures.value c.part_from-at.ensures.parted in
    c.remove_from.ensures.changed
    ∙ sym (without_entry_in_part g.P.Part.entries (c.orders.ensures.sorts false false) c.args.sought.now c.self.inside.parts.items c.part_from-at.result c.self.invariant.0 within parted)
    ∙ ap (without_entry c.args.sought.now) c.self.view_is

pub invariant_of-self : goal.invariant_of-self
invariant_of-self g c = (
  subst IsAscending (sym (returns-then-at-len g c)) (ascending_without c.args.sought.now c.args.self.now (subst IsAscending c.self.view_is c.self.invariant.0)),
  c.remove_from.ensures.filled c.self.invariant.1,
)

pub returns-else-at-len : goal.returns-else-at-len
returns-else-at-len g c =
    let past : length c.self.inside.parts.items ≤ c.part_from-at.result = grind (arith, common_steps) in
    let parted = subst (λ bs. PartsPart g.P.Part.entries (λ x. is_lt (entry_cmp x c.args.sought.now)) bs c.part_from-at.result) c.as_slice.ensures.value c.part_from-at.ensures.parted in
    subst (λ xs. xs ≡ without_entry c.args.sought.now xs) c.self.view_is
    (sym (without_entry_past g.P.Part.entries c.args.sought.now c.self.inside.parts.items (λ i d lt. parted.0 i d (omega arith) (omega (arith, past)))))
