use Rattle.std.proofs.Common.{ℕ, ◌+◌, ◌≤◌, List, Some, sym, subst, arith}
use Rattle.std.proofs.lemmas.Bool.Decides.{nat_tests}
use Rattle.cat_core.specs.declared.stamps.StampRow.{StampRow}
use Rattle.cat_core.specs.Ages.{AreBetween}
use Rattle.cat_core.proofs.Ages.{between_push}
use Rattle.cat_core.proofs.StampRows.{number}
use Rattle.cat_core.proofs.stamps.Stamps.add.Goals as goal

pub invariant_of-self-then-id-lt4294967295 : goal.invariant_of-self-then-id-lt4294967295
invariant_of-self-then-id-lt4294967295 c =
    let le : c.self.inside.next_id ≤ c.args.id.0 = grind (arith, nat_tests, c.if-self-number.true, c.from-number.ensures) in
    subst (λ (n : ℕ). AreBetween number 0 c.push.new.self.items (n + 1)) (sym c.from-number.ensures)
    (subst (λ (rows : List StampRow). AreBetween number 0 rows (c.args.id.0 + 1)) (sym c.in_ok-push.ensures.items)
    (between_push number c.self.inside.rows.items (record { id = c.args.id; stamp = Some c.args.stamp }) 0 c.self.inside.next_id c.self.invariant le))
