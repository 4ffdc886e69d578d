-- What the weights of the open levels keep.
use Rattle.std.proofs.Common.{◌≡◌, ℕ, ◌+◌, ◌-◌, ◌≤◌, ◌<◌, List, [], ◌∷◌, All, sum, length, get_or, set, drop, arith, add-one, ◌∙◌, ap}
use Rattle.std.proofs.Math.Seq.{drop-cons}
use Rattle.std.proofs.lemmas.List.Elements.{All-head, All-tail}
use Rattle.std.proofs.lemmas.List.Sums.{sum_by-cons}
use Rattle.std.proofs.lemmas.List.{drop-set, length-drop}

-- levels that weigh something are no more than they weigh
pub length-le-sum : (weights : List ℕ) → All (λ w. 0 < w) weights → length weights ≤ sum weights
length-le-sum [] each = omega arith
length-le-sum (w ∷ weights) each =
    let rest = length-le-sum weights (All-tail (λ x. 0 < x) w weights each) in
    let first : 0 < w = All-head (λ x. 0 < x) w weights each in
    omega (arith, sum_by-cons (λ x. x) w weights)

-- the nearest of the outer levels, and the rest
pub drop-parted : (outer : List ℕ) (free : ℕ) → free < length outer → drop free outer ≡ get_or outer free 0 ∷ drop (free + 1) outer
drop-parted outer free below = rw (add-one, drop-cons outer free 0)

-- a level put before the nearest of the outer ones
pub drop-put : (outer : List ℕ) (free w : ℕ) → 0 < free → free ≤ length outer → drop (free - 1) (set outer (free - 1) w) ≡ w ∷ drop free outer
drop-put outer free w some within =
    let back : (free - 1) + 1 ≡ free = omega arith in
    drop-set outer (free - 1) w (omega arith) ∙ ap (λ n. w ∷ drop n outer) back

-- a place is free where the levels weigh little
pub free-open : (outer : List ℕ) (free w : ℕ) → All (λ x. 0 < x) (drop free outer) → 0 < w → sum (w ∷ drop free outer) < length outer + 1 → 0 < free
free-open outer free w each inner light =
    let few = length-le-sum (drop free outer) each in
    omega (arith, sum_by-cons (λ x. x) w (drop free outer), length-drop free outer)
