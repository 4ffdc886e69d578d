use Rattle.std.proofs.Common.{◌≡◌, ◌∷◌, [], ◌++◌, Some, cond, eqb, false, length, sym, ap, ◌∙◌, arith}
use Rattle.std.specs.Prelude.{is_some}
use Rattle.std.specs.HashMap.{get}
use Rattle.row_versions.specs.Stored.{Stored, position_of}
use Rattle.row_versions.proofs.Positions.{position_none, placed-new}
use Rattle.row_versions.proofs.tables.Tables.add.Goals as goal

pub invariant_of-self-2 : goal.invariant_of-self-2
invariant_of-self-2 c =
    let heaps = c.self.inside.heaps.items in
    let absent : is_some (position_of c.args.id.0 heaps) ≡ false = ap is_some (ap (position_of c.args.id.0) c.self.view_is ∙ sym c.find.ensures) ∙ sym c.if-is_some.ensures in
    let table : Stored = record { id = c.args.id; slots = [] } in
    let reserved : c.reserve.new.self.items ≡ heaps = c.in_ok-reserve.ensures.items in
    let pushed : c.push_reserved.new.self.items ≡ heaps ++ table ∷ [] = c.push_reserved.ensures.items ∙ ap (λ xs. xs ++ c.new.result ∷ []) reserved ∙ ap (λ t. heaps ++ t ∷ []) c.new.ensures in
    let len : c.len.result ≡ length heaps = omega (arith, ap length reserved) in
    λ id.
    placed-new heaps table (λ q. get eqb c.insert.new.self q) (position_none c.args.id.0 heaps absent) (λ q. c.in_ok-insert.ensures.updates.0 q ∙ ap (λ n. cond (eqb c.args.id.0 q) (Some n) (get eqb c.self.inside.places q)) len ∙ ap (cond (eqb c.args.id.0 q) (Some (length heaps))) (c.self.invariant q)) id ∙ ap (position_of id) (sym pushed)
