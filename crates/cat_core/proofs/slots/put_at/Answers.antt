use Rattle.std.proofs.Common.{◌≡◌, Option, set, ap, ◌∙◌, ◌<◌, ◌≤◌, length, vec_len, true, false, sym, refl, arith}
use Rattle.std.proofs.lemmas.Grind.{common_steps}
use Rattle.std.specs.declared.rc.Rc.{Rc}
use Rattle.std.specs.declared.alloc.Global.{Global}
use Rattle.cat_core.specs.declared.entry.Entry.{Entry}
use Rattle.cat_core.proofs.Ages.{past}
use Rattle.cat_core.proofs.SlotRows.{given_in, given_past}
use Rattle.cat_core.proofs.slots.put_at.Goals as goal

pub returns-in-Some-clause-given : goal.returns-in-Some-clause-given
returns-in-Some-clause-given c =
    let count : vec_len c.args.slots.now ≡ length c.args.slots.now.items = grind (arith, common_steps) in
    let within : c.args.place < vec_len c.args.slots.now = c.in-Some.ensures.variant.0 refl in
    ap (λ (e : Option (Rc Entry Global)). set c.args.slots.now.items c.args.place (record { id = c.in-Some.slot.now.id; entry = e })) c.replace.ensures.after ∙ given_in c.args.slots.now.items c.args.place c.args.entry c.in-Some.slot.now (omega (arith, within, count)) c.in-Some.ensures.value

pub returns-in-None-clause-given : goal.returns-in-None-clause-given
returns-in-None-clause-given c =
    let count : vec_len c.args.slots.now ≡ length c.args.slots.now.items = grind (arith, common_steps) in
    let beyond : vec_len c.args.slots.now ≤ c.args.place = past _ _ (λ lt. let e : false ≡ true = c.in-None.ensures.variant.1 lt in cc) in
    sym (given_past c.args.slots.now.items c.args.place c.args.entry (omega (arith, beyond, count)))
