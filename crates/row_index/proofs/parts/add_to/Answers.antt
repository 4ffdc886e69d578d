use Rattle.std.proofs.Common.{sym, ap, ◌∙◌, subst}
use Rattle.row_index.specs.Entries.{IsFilled, with_entry}
use Rattle.row_index.proofs.Joined.{each_set, filled_with, joined_set}
use Rattle.row_index.proofs.parts.add_to.Goals as goal

pub returns-then-is_long-clause-ok : goal.returns-then-is_long-clause-ok
returns-then-is_long-clause-ok g c =
    c.divide.ensures.same
    ∙ joined_set g.P.Part.entries (with_entry c.args.entry) c.args.parts.now.items c.args.at c.add.new.self c.index_mut.result.now c.requires
    (c.in_ok-add.ensures.ok ∙ ap (λ part. with_entry c.args.entry (g.P.Part.entries part)) c.index_mut.ensures.value)

pub returns-else-is_long-clause-ok : goal.returns-else-is_long-clause-ok
returns-else-is_long-clause-ok g c =
    joined_set g.P.Part.entries (with_entry c.args.entry) c.args.parts.now.items c.args.at c.add.new.self c.index_mut.result.now c.requires
    (c.in_ok-add.ensures.ok ∙ ap (λ part. with_entry c.args.entry (g.P.Part.entries part)) c.index_mut.ensures.value)

pub returns-then-is_long-clause-filled : goal.returns-then-is_long-clause-filled
returns-then-is_long-clause-filled g c each =
    c.divide.ensures.filled
    (each_set (λ part. IsFilled (g.P.Part.entries part)) c.args.parts.now.items c.args.at c.add.new.self each (subst IsFilled (sym c.in_ok-add.ensures.ok) (filled_with c.args.entry (g.P.Part.entries c.index_mut.result.now))))

pub returns-else-is_long-clause-filled : goal.returns-else-is_long-clause-filled
returns-else-is_long-clause-filled g c each =
    each_set (λ part. IsFilled (g.P.Part.entries part)) c.args.parts.now.items c.args.at c.add.new.self each (subst IsFilled (sym c.in_ok-add.ensures.ok) (filled_with c.args.entry (g.P.Part.entries c.index_mut.result.now)))
