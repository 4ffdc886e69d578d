use Rattle.std.proofs.Common.{◌≡◌, ◌==◌, length, vec_len, ap, ◌∙◌, arith}
use Rattle.std.proofs.lemmas.Grind.{common_steps}
use Rattle.row_index.proofs.Joined.{none_joined}
use Rattle.row_index.proofs.parts.PartsPart.is_empty.Goals as goal

pub returns : goal.returns
returns g c =
    let count : vec_len c.self.inside.parts ≡ length c.self.inside.parts.items = grind (arith, common_steps) in
    c.is_empty.ensures ∙ ap (λ n. n == 0) count ∙ none_joined g.P.Part.entries c.self.inside.parts.items c.self.invariant.1 ∙ ap (λ xs. length xs == 0) c.self.view_is
