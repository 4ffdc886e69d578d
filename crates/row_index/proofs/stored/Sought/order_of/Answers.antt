use Rattle.std.proofs.Common.{◌≡◌, false, w64, to_z, of_z, int_cmp, ap, ◌∙◌, arith, rules}
use Rattle.std.proofs.lemmas.Int.{ints}
use mir.Val.{SFits}
use Rattle.row_index.specs.Order.{entry_cmp, entry_of}
use Rattle.row_index.proofs.Leads.{led}
use Rattle.row_index.proofs.Orders.{entries_total}
use Rattle.row_index.proofs.stored.Sought.order_of.Goals as goal

pub returns-in_default : goal.returns-in_default
returns-in_default c =
    let fits : SFits w64 c.self.inside.lead = search rules in
    let left : to_z w64 (of_z w64 c.args.lead) ≡ c.args.lead = omega (arith, ints) in
    let right : to_z w64 (of_z w64 c.self.inside.lead) ≡ c.self.inside.lead = omega (arith, ints) in
    let compared = c.cmp.ensures ∙ ap (λ n. int_cmp n (to_z w64 (of_z w64 c.self.inside.lead))) left ∙ ap (int_cmp c.args.lead) right in
    led (entries_total (c.orders.ensures.sorts false false)) c.args.entry.now (entry_of c.self.inside.key.now c.self.inside.slot) c.args.lead c.self.inside.lead c.requires c.self.invariant c.ranges.lead fits c.cmp.result compared c.in_default.not-Equal
    ∙ ap (entry_cmp c.args.entry.now) c.self.view_is
