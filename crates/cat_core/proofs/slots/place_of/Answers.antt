use Rattle.std.proofs.Common.{Ok, Err, rules}
use Rattle.std.proofs.Common.{nat_cmp}
use Rattle.std.proofs.lemmas.Fn.{always_returns_same}
use Rattle.cat_core.specs.declared.slots.Slot.{Slot}
use Rattle.cat_core.proofs.Ages.{place_searched}
use Rattle.cat_core.proofs.SlotRows.{number}
use Rattle.cat_core.proofs.slots.place_of.Goals as goal

pub returns-in-Ok : goal.returns-in-Ok
returns-in-Ok c = λ high up.
    place_searched number c.args.slots.now c.args.id.0 high (Ok c.in-Ok.place) up c.in-Ok.ensures.bound (c.in-Ok.ensures.position (λ (slot : Slot). nat_cmp slot.id.0 c.args.id.0) (always_returns_same _ _ _ (λ a r f called. (search rules, search rules))))

pub returns-in-Err : goal.returns-in-Err
returns-in-Err c = λ high up.
    place_searched number c.args.slots.now c.args.id.0 high (Err c.in-Err.field-0) up c.in-Err.ensures.bound (c.in-Err.ensures.position (λ (slot : Slot). nat_cmp slot.id.0 c.args.id.0) (always_returns_same _ _ _ (λ a r f called. (search rules, search rules))))
