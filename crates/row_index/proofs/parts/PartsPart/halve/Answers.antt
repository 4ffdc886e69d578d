use Rattle.std.proofs.Common.{◌/◌, arith, subst}
use Rattle.row_index.specs.Entries.{IsHalved, joined}
use Rattle.row_index.proofs.Joined.{IsCut, cut_front, cut_back, cut_halved}
use Rattle.row_index.proofs.parts.PartsPart.halve.Goals as goal

cut : (g : _) (c : goal.In-Ok g) → IsCut g.P.Part.entries (c.len-half.result / 2) c.self.inside.parts.items c.split_off.new.self.items c.in-Ok.parts.items
cut g c = record {
  some = omega arith;
  more = omega arith;
  front_is = c.in-Ok.ensures.items;
  back_is = c.in-Ok.ensures.tail;
  up = c.self.invariant.0;
  filled = c.self.invariant.1;
}

pub invariant_of-result : goal.invariant_of-result
invariant_of-result g c = cut_back g.P.Part.entries (c.len-half.result / 2) c.self.inside.parts.items c.split_off.new.self.items c.in-Ok.parts.items (cut g c)

pub invariant_of-self-2 : goal.invariant_of-self-2
invariant_of-self-2 g c = cut_front g.P.Part.entries (c.len-half.result / 2) c.self.inside.parts.items c.split_off.new.self.items c.in-Ok.parts.items (cut g c)

pub returns : goal.returns
returns g c =
    subst (λ xs. IsHalved xs (joined g.P.Part.entries c.split_off.new.self.items) (joined g.P.Part.entries c.in-Ok.parts.items)) c.self.view_is
    (cut_halved g.P.Part.entries (c.len-half.result / 2) c.self.inside.parts.items c.split_off.new.self.items c.in-Ok.parts.items (cut g c))
