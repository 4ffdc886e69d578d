use Rattle.std.proofs.Common.{◌+◌, ◌<◌, get_or, drop, arith}
use Rattle.std.proofs.lemmas.List.Elements.{All-head, All-tail}
use Rattle.std.proofs.lemmas.List.Sums.{sum_by-cons}
use Rattle.sql_expr.proofs.LevelLemmas.{drop-parted}
use Rattle.sql_expr.proofs.levels.Levels.close.Goals as goal

pub invariant_of-self : goal.invariant_of-self
invariant_of-self c =
    let s = c.self.inside in
    let parted = drop-parted s.outer s.free (omega arith) in
    let each = rw parted at c.self.invariant.each in
    let total = rw parted at c.self.invariant.total in
    record {
      within = omega arith;
      inner = All-head (λ w. 0 < w) (get_or s.outer s.free 0) (drop (s.free + 1) s.outer) each;
      each = All-tail (λ w. 0 < w) (get_or s.outer s.free 0) (drop (s.free + 1) s.outer) each;
      total = omega (arith, total, sum_by-cons (λ w. w) (get_or s.outer s.free 0) (drop (s.free + 1) s.outer));
      small = omega (arith, c.self.invariant.small);
    }
