use Rattle.std.proofs.Common.{◌≡◌, None, Some, not, find, sym, ap, ◌∙◌, arith}
use Rattle.std.specs.List.{slice_get}
use Rattle.std.specs.Option.{option_and_then}
use Rattle.std.proofs.lemmas.Grind.{common_steps}
use Rattle.std.proofs.lemmas.Option.{gets}
use Rattle.row_index.specs.Cuts.{is_before}
use Rattle.row_index.specs.Entries.{joined}
use Rattle.row_index.proofs.Joined.{find_in_parts}
use Rattle.row_index.proofs.parts.PartsPart.first_from.Goals as goal

pub returns-in-Some-clause-first : goal.returns-in-Some-clause-first
returns-in-Some-clause-first g c =
    let got : slice_get c.as_slice-parts.result.now c.part_from.result ≡ Some c.in-Some.part.now = grind (arith, common_steps, gets) in
    c.first_from.ensures.first
    ∙ ap (option_and_then (λ part. find (λ entry. not (is_before c.args.cut.now entry)) (g.P.Part.entries part))) (sym got)
    ∙ find_in_parts g.P.Part.entries (is_before c.args.cut.now) c.as_slice-parts.result.now c.part_from.result c.part_from.ensures.within c.part_from.ensures.parted
    ∙ ap (λ xs. find (λ entry. not (is_before c.args.cut.now entry)) xs) (ap (joined g.P.Part.entries) c.as_slice-parts.ensures.value ∙ c.self.view_is)

pub returns-in-None-clause-first : goal.returns-in-None-clause-first
returns-in-None-clause-first g c =
    let got : slice_get c.as_slice-parts.result.now c.part_from.result ≡ None = grind (arith, common_steps, gets) in
    ap (option_and_then (λ part. find (λ entry. not (is_before c.args.cut.now entry)) (g.P.Part.entries part))) (sym got)
    ∙ find_in_parts g.P.Part.entries (is_before c.args.cut.now) c.as_slice-parts.result.now c.part_from.result c.part_from.ensures.within c.part_from.ensures.parted
    ∙ ap (λ xs. find (λ entry. not (is_before c.args.cut.now entry)) xs) (ap (joined g.P.Part.entries) c.as_slice-parts.ensures.value ∙ c.self.view_is)
