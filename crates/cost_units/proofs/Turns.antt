-- A recursion on a count of turns, beside a loop that counts up.
use Rattle.std.proofs.Common.{◌≡◌, ℕ, suc, ◌+◌, ◌-◌, ◌<◌, ap, ◌∙◌, arith}
use Rattle.cost_units.specs.Estimates.{third, thirds}

-- one third of those that are left
pub one_third : (rows left conds turn : ℕ) → turn < conds → thirds left (conds - turn) ≡ rows → thirds (third left) (conds - (turn + 1)) ≡ rows
one_third rows left conds turn below same = let here : suc (conds - (turn + 1)) ≡ conds - turn = omega arith in ap (thirds left) here ∙ same
