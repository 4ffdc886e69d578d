use Rattle.std.proofs.Common.{◌≡◌, ◌<◌, ◌≤◌, length, vec_len, true, false, sym, refl, arith}
use Rattle.std.proofs.lemmas.Grind.{common_steps}
use Rattle.cat_core.proofs.Ages.{past}
use Rattle.cat_core.proofs.StampRows.{stamped_in, stamped_past}
use Rattle.cat_core.proofs.stamps.put_at.Goals as goal

pub returns-in-Some : goal.returns-in-Some
returns-in-Some c =
    let count : vec_len c.args.rows.now ≡ length c.args.rows.now.items = grind (arith, common_steps) in
    let within : c.args.place < vec_len c.args.rows.now = c.in-Some.ensures.variant.0 refl in
    stamped_in c.args.rows.now.items c.args.place c.args.stamp c.in-Some.row.now (omega (arith, within, count)) c.in-Some.ensures.value

pub returns-in-None : goal.returns-in-None
returns-in-None c =
    let count : vec_len c.args.rows.now ≡ length c.args.rows.now.items = grind (arith, common_steps) in
    let beyond : vec_len c.args.rows.now ≤ c.args.place = past _ _ (λ lt. let e : false ≡ true = c.in-None.ensures.variant.1 lt in cc) in
    sym (stamped_past c.args.rows.now.items c.args.place c.args.stamp (omega (arith, beyond, count)))
