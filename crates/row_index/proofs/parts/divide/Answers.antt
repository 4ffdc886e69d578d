use Rattle.std.proofs.Common.{◌≡◌, ◌+◌, insert, set, subst, sym, arith}
use Rattle.std.proofs.lemmas.Grind.{common_steps}
use Rattle.row_index.proofs.Joined.{IsDivided, divided, left_whole}
use Rattle.row_index.proofs.parts.divide.Goals as goal

halved : (g : _) (c : goal.After-drop-index_mut g) → IsDivided g.P.Part.entries c.args.parts.now.items (set (set c.insert.new.self.items c.args.at c.halve.new.self) (c.args.at + 1) c.in-Some.back)
halved g c =
    let made : c.insert.new.self.items ≡ insert c.args.parts.now.items (c.args.at + 1) c.empty.result = grind (arith, common_steps) in
    divided g.P.Part.entries c.args.at c.args.parts.now.items c.insert.new.self.items c.empty.result c.index_mut.result.now c.requires made c.index_mut.ensures.value c.halve.new.self c.in-Some.back c.in-Some.ensures

pub returns-in-Some-clause-same : goal.returns-in-Some-clause-same
returns-in-Some-clause-same g c = (halved g c).same

pub returns-in-Some-clause-filled : goal.returns-in-Some-clause-filled
returns-in-Some-clause-filled g c each = (halved g c).filled each

whole : (g : _) (c : goal.After-drop-remove g) → IsDivided g.P.Part.entries c.args.parts.now.items c.remove.new.self.items
whole g c =
    let made : c.insert.new.self.items ≡ insert c.args.parts.now.items (c.args.at + 1) c.empty.result = grind (arith, common_steps) in
    subst (IsDivided g.P.Part.entries c.args.parts.now.items) (sym c.remove.ensures.items)
    (left_whole g.P.Part.entries c.args.at c.args.parts.now.items c.insert.new.self.items c.empty.result c.index_mut.result.now c.requires made c.index_mut.ensures.value c.halve.new.self c.in-None.ensures)

pub returns-in-None-clause-same : goal.returns-in-None-clause-same
returns-in-None-clause-same g c = (whole g c).same

pub returns-in-None-clause-filled : goal.returns-in-None-clause-filled
returns-in-None-clause-filled g c each = (whole g c).filled each
