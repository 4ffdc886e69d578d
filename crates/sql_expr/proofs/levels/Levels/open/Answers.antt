use Rattle.std.proofs.Common.{◌<◌, ◌∷◌, drop, ap, arith, ◌∙◌}
use Rattle.std.proofs.lemmas.List.Elements.{All-cons}
use Rattle.std.proofs.lemmas.List.Sums.{sum_by-cons}
use Rattle.sql_expr.proofs.LevelLemmas.{drop-put, free-open}
use Rattle.sql_expr.proofs.levels.Levels.open.Goals as goal

pub overflow_sub-self : goal.overflow_sub-self
overflow_sub-self c =
    let s = c.self.inside in
    let light = rw (← c.self.view_is) at c.requires in
    free-open s.outer s.free s.weight c.self.invariant.each c.self.invariant.inner (omega (arith, light))

pub invariant_of-self : goal.invariant_of-self
invariant_of-self c =
    let s = c.self.inside in
    let light = rw (← c.self.view_is) at c.requires in
    let some : 0 < s.free = free-open s.outer s.free s.weight c.self.invariant.each c.self.invariant.inner (omega (arith, light)) in
    let put = drop-put s.outer s.free s.weight some (omega arith) in
    let whole = sum_by-cons (λ w. w) s.weight (drop s.free s.outer) in
    record {
      within = omega arith;
      inner = omega arith;
      each = rw put (All-cons (λ w. 0 < w) s.weight (drop s.free s.outer) c.self.invariant.inner c.self.invariant.each);
      total = rw put (omega (arith, whole));
      small = omega (arith, light, whole);
    }

pub returns : goal.returns
returns c =
    let s = c.self.inside in
    let light = rw (← c.self.view_is) at c.requires in
    let some : 0 < s.free = free-open s.outer s.free s.weight c.self.invariant.each c.self.invariant.inner (omega (arith, light)) in
    ap (λ levels. 1 ∷ levels) (drop-put s.outer s.free s.weight some (omega arith) ∙ c.self.view_is)
