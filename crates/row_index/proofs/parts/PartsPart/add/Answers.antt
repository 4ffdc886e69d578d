use Rattle.std.proofs.Common.{◌≡◌, ◌<◌, ◌-◌, length, sym, ap, ◌∙◌, subst, inl, inr, arith, false}
use Rattle.std.proofs.lemmas.Grind.{common_steps}
use Rattle.std.specs.Ordering.{is_lt}
use Rattle.row_index.specs.Order.{entry_cmp}
use Rattle.row_index.specs.Entries.{IsAscending, joined, joined_with, with_entry}
use Rattle.row_index.proofs.Joined.{PartsPart, kept_or_changed, on_ok_same, with_entry_in_part}
use Rattle.row_index.proofs.Edits.{ascending_with}
use Rattle.row_index.proofs.parts.PartsPart.add.Goals as goal

-- into the first part that doesn't lie before the entry
within : (g : _) (c : goal.After-add_to g) → with_entry c.args.entry (joined g.P.Part.entries c.self.inside.parts.items) ≡ joined_with g.P.Part.entries (with_entry c.args.entry) c.self.inside.parts.items c.part_from-at.result
within g c =
    let lt : c.part_from-at.result < length c.self.inside.parts.items = grind (arith, common_steps) in
    let parted = subst (λ bs. PartsPart g.P.Part.entries (λ x. is_lt (entry_cmp x c.args.entry)) bs c.part_from-at.result) c.as_slice.ensures.value (subst (λ sought. PartsPart g.P.Part.entries (λ x. is_lt (entry_cmp x sought)) c.as_slice.result.now c.part_from-at.result) c.sought.ensures c.part_from-at.ensures.parted) in
    with_entry_in_part g.P.Part.entries c.args.entry c.self.inside.parts.items c.part_from-at.result lt (λ i d below. parted.0 i d (omega arith) below) (inl (λ d. parted.1 c.part_from-at.result d (omega arith) lt))

pub returns-then-at-len-clause-ok : goal.returns-then-at-len-clause-ok
returns-then-at-len-clause-ok g c =
    on_ok_same c.add_to.result (joined g.P.Part.entries c.add_to.new.parts.items) (joined_with g.P.Part.entries (with_entry c.args.entry) c.self.inside.parts.items c.part_from-at.result) (with_entry c.args.entry c.args.self.now)
    c.add_to.ensures.ok (sym (within g c) ∙ ap (with_entry c.args.entry) c.self.view_is)

pub invariant_of-self : goal.invariant_of-self
invariant_of-self g c = (
  kept_or_changed g.P.Part.entries IsAscending c.add_to.result c.self.inside.parts.items c.add_to.new.parts.items (joined_with g.P.Part.entries (with_entry c.args.entry) c.self.inside.parts.items c.part_from-at.result)
      c.add_to.ensures.ok c.add_to.ensures.err c.self.invariant.0
      (subst IsAscending (within g c) (ascending_with (c.orders.ensures.sorts false false) c.args.entry (joined g.P.Part.entries c.self.inside.parts.items) c.self.invariant.0)),
  c.add_to.ensures.filled c.self.invariant.1,
)

-- into the last part, where all lie before the entry
past : (g : _) (c : goal.After-add_to-then-at-gt0 g) → with_entry c.args.entry (joined g.P.Part.entries c.self.inside.parts.items) ≡ joined_with g.P.Part.entries (with_entry c.args.entry) c.self.inside.parts.items (c.part_from-at.result - 1)
past g c =
    let whole : c.part_from-at.result ≡ length c.self.inside.parts.items = grind (arith, common_steps) in
    let parted = subst (λ bs. PartsPart g.P.Part.entries (λ x. is_lt (entry_cmp x c.args.entry)) bs c.part_from-at.result) c.as_slice.ensures.value (subst (λ sought. PartsPart g.P.Part.entries (λ x. is_lt (entry_cmp x sought)) c.as_slice.result.now c.part_from-at.result) c.sought.ensures c.part_from-at.ensures.parted) in
    with_entry_in_part g.P.Part.entries c.args.entry c.self.inside.parts.items (c.part_from-at.result - 1) (omega (arith, whole, c.if-at-gt0.true)) (λ i d below. parted.0 i d (omega arith) (omega arith)) (inr (omega (arith, whole, c.if-at-gt0.true)))

pub returns-then-at-gt0-clause-ok : goal.returns-then-at-gt0-clause-ok
returns-then-at-gt0-clause-ok g c =
    on_ok_same c.add_to-then-at-gt0.result (joined g.P.Part.entries c.add_to-then-at-gt0.new.parts.items) (joined_with g.P.Part.entries (with_entry c.args.entry) c.self.inside.parts.items (c.part_from-at.result - 1)) (with_entry c.args.entry c.args.self.now)
    c.add_to-then-at-gt0.ensures.ok (sym (past g c) ∙ ap (with_entry c.args.entry) c.self.view_is)

pub invariant_of-self-then-at-gt0 : goal.invariant_of-self-then-at-gt0
invariant_of-self-then-at-gt0 g c = (
  kept_or_changed g.P.Part.entries IsAscending c.add_to-then-at-gt0.result c.self.inside.parts.items c.add_to-then-at-gt0.new.parts.items (joined_with g.P.Part.entries (with_entry c.args.entry) c.self.inside.parts.items (c.part_from-at.result - 1))
      c.add_to-then-at-gt0.ensures.ok c.add_to-then-at-gt0.ensures.err c.self.invariant.0
      (subst IsAscending (past g c) (ascending_with (c.orders.ensures.sorts false false) c.args.entry (joined g.P.Part.entries c.self.inside.parts.items) c.self.invariant.0)),
  c.add_to-then-at-gt0.ensures.filled c.self.invariant.1,
)
