use Rattle.std.proofs.Common.{ℕ, ◌+◌, ◌≤◌, List, Some, None, ap, sym, subst, ◌∙◌, arith}
use Rattle.cat_core.specs.Objects.{Objects, entry_in, with_entry}
use Rattle.cat_core.proofs.Backs.{made, same}
use Rattle.std.proofs.lemmas.Bool.Decides.{nat_tests}
use Rattle.cat_core.specs.declared.slots.Slot.{Slot}
use Rattle.cat_core.specs.Ages.{AreBetween}
use Rattle.cat_core.proofs.Ages.{between_push}
use Rattle.cat_core.proofs.SlotRows.{number}
use Rattle.cat_core.proofs.slots.Slots.add.Goals as goal

pub invariant_of-self-then-id-lt4294967295 : goal.invariant_of-self-then-id-lt4294967295
invariant_of-self-then-id-lt4294967295 c =
    let le : c.self.inside.next_id ≤ c.args.id.0 = grind (arith, nat_tests, c.if-self-number.true, c.from-number.ensures) in
    subst (λ (n : ℕ). AreBetween number 0 c.push.new.self.items (n + 1)) (sym c.from-number.ensures)
    (subst (λ (slots : List Slot). AreBetween number 0 slots (c.args.id.0 + 1)) (sym c.in_ok-push.ensures.items)
    (between_push number c.self.inside.slots.items (record { id = c.args.id; entry = Some c.args.entry }) 0 c.self.inside.next_id c.self.invariant le))

pub returns-in_ok-push-clause-back : goal.returns-in_ok-push-clause-back
returns-in_ok-push-clause-back c = λ none other.
    let le : c.self.inside.next_id ≤ c.args.id.0 = grind (arith, nat_tests, c.if-self-number.true, c.from-number.ensures) in
    ap (λ (slots : List Slot). entry_in (with_entry c.args.id None slots) other) c.in_ok-push.ensures.items
    ∙ made c.args.id (Some c.args.entry) c.self.inside.slots.items c.self.inside.next_id c.self.invariant le other
    ∙ ap (λ (s : Objects). entry_in s.slots other) c.self.view_is

pub returns-else-self-number-clause-back : goal.returns-else-self-number-clause-back
returns-else-self-number-clause-back c = λ none other. same c.args.id None c.args.self.now.slots none other
