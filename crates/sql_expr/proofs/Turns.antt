-- A recursion on a count of turns, beside a loop that counts up.
use Rattle.std.proofs.Common.{◌≡◌, ℕ, suc, ◌+◌, ◌-◌, ◌<◌, ◌≤◌, ap, ◌∙◌, arith}

-- one turn of those that are left
pub one_more : {X : Type 0} {x : X} (f : ℕ → X) (turns turn : ℕ) → turn < turns → x ≡ f (turns - turn) → x ≡ f (suc (turns - (turn + 1)))
one_more f turns turn below e = let here : turns - turn ≡ suc (turns - (turn + 1)) = omega arith in e ∙ ap f here

-- no turn is left
pub no_more : {X : Type 0} {x : X} (f : ℕ → X) (turns turn : ℕ) → turns ≤ turn → x ≡ f (turns - turn) → x ≡ f 0
no_more f turns turn done e = let none : turns - turn ≡ 0 = omega arith in e ∙ ap f none

-- one level of those that are left
pub deeper : {X : Type 0} (f : ℕ → X) (depth : ℕ) → 0 < depth → f depth ≡ f (suc (depth - 1))
deeper f depth some = let e : depth ≡ suc (depth - 1) = omega arith in ap f e
