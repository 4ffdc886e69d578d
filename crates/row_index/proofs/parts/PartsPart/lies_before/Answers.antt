use Rattle.std.proofs.Common.{false, sym, ap, ◌∙◌, subst}
use Rattle.std.specs.List.{list_all}
use Rattle.row_index.specs.Cuts.{is_before}
use Rattle.row_index.specs.Entries.{AreFilled, IsAscending, joined}
use Rattle.row_index.proofs.Cuts.{before_down}
use Rattle.row_index.proofs.Joined.{all_by_last_part}
use Rattle.row_index.proofs.parts.PartsPart.lies_before.Goals as goal

pub returns-in-Some : goal.returns-in-Some
returns-in-Some g c =
    let up = subst (λ xs. IsAscending (joined g.P.Part.entries xs)) (sym c.deref.ensures.value) c.self.invariant.0 in
    let filled = subst (AreFilled g.P.Part.entries) (sym c.deref.ensures.value) c.self.invariant.1 in
    let down = before_down (c.orders.ensures.sorts false false) c.args.cut.now in
    c.lies_before.ensures
    ∙ all_by_last_part g.P.Part.entries (is_before c.args.cut.now) down c.deref.result.now up filled c.in-Some.last.now (sym c.in-Some.ensures.value)
    ∙ ap (λ xs. list_all (is_before c.args.cut.now) xs) (ap (joined g.P.Part.entries) c.deref.ensures.value ∙ c.self.view_is)
