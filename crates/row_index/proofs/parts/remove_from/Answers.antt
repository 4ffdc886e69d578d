use Rattle.std.proofs.Common.{◌≡◌, length, ap, ◌∙◌, arith}
use Rattle.std.proofs.lemmas.Grind.{common_steps}
use Rattle.row_index.specs.Entries.{joined, without_entry}
use Rattle.row_index.proofs.Joined.{joined_left_out, joined_set}
use Rattle.row_index.proofs.parts.remove_from.Goals as goal

pub returns-then-is_empty-clause-changed : goal.returns-then-is_empty-clause-changed
returns-then-is_empty-clause-changed g c =
    let empty : length (g.P.Part.entries c.remove.new.self) ≡ 0 = grind (arith, common_steps) in
    ap (joined g.P.Part.entries) c.remove-then-is_empty.ensures.items
    ∙ joined_left_out g.P.Part.entries c.args.parts.now.items c.args.at c.remove.new.self empty
    ∙ joined_set g.P.Part.entries (without_entry c.args.sought.now) c.args.parts.now.items c.args.at c.remove.new.self c.index_mut.result.now c.requires
    (c.remove.ensures ∙ ap (λ part. without_entry c.args.sought.now (g.P.Part.entries part)) c.index_mut.ensures.value)

pub returns-else-is_empty-clause-changed : goal.returns-else-is_empty-clause-changed
returns-else-is_empty-clause-changed g c =
    joined_set g.P.Part.entries (without_entry c.args.sought.now) c.args.parts.now.items c.args.at c.remove.new.self c.index_mut.result.now c.requires
    (c.remove.ensures ∙ ap (λ part. without_entry c.args.sought.now (g.P.Part.entries part)) c.index_mut.ensures.value)
