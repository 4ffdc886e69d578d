use Rattle.std.proofs.Common.{◌≡◌, None, Some, sym, ap, ◌∙◌, arith}
use Rattle.std.proofs.lemmas.Grind.{common_steps}
use Rattle.std.proofs.lemmas.Option.{gets}
use Rattle.std.specs.List.{slice_get}
use Rattle.row_index.specs.Cuts.{is_before}
use Rattle.row_index.proofs.Lists.{find_at_end}
use Rattle.row_index.proofs.block.BlockPart.first_from.Goals as goal

pub returns-in-Some-clause-first : goal.returns-in-Some-clause-first
returns-in-Some-clause-first c =
    let got : slice_get c.deref.result.now c.place_of.result ≡ Some c.in-Some.stored.now = grind (arith, common_steps, gets) in
    ap Some c.entry.ensures
    ∙ sym got
    ∙ ap (λ xs. slice_get xs c.place_of.result) (c.deref.ensures.value ∙ c.self.view_is)
    ∙ find_at_end (is_before c.args.cut.now) c.args.self.now c.place_of.result c.place_of.ensures.within c.place_of.ensures.parted

pub returns-in-None-clause-first : goal.returns-in-None-clause-first
returns-in-None-clause-first c =
    let got : slice_get c.deref.result.now c.place_of.result ≡ None = grind (arith, common_steps, gets) in
    sym got
    ∙ ap (λ xs. slice_get xs c.place_of.result) (c.deref.ensures.value ∙ c.self.view_is)
    ∙ find_at_end (is_before c.args.cut.now) c.args.self.now c.place_of.result c.place_of.ensures.within c.place_of.ensures.parted
