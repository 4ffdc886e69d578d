-- What a binary search finds in a list whose keys ascend strictly.
use Rattle.std.proofs.Common.{◌≡◌, ℕ, zero, suc, ◌+◌, ◌-◌, ◌<◌, ◌≤◌, List, length, get_or, Ordering, Less, Equal, Greater, Result, Ok, Err, MatchResult, HoldsAt, sym, ap, refl, ◌∙◌, arith}
use Rattle.std.specs.List.{AllAdjacentBelow}
use Rattle.std.specs.List.Sorted.{IsSearchInRange, IsBinarySearchResult, IsNonDecreasingBy}
use Rattle.std.specs.Cmp.{IsTotalOrder}
use Rattle.std.specs.Ordering.{ordering_index, ordering_reverse}
use Rattle.std.proofs.lemmas.Cmp.{alike_right}
use Rattle.std.proofs.lemmas.List.Sorted.{IsNonDecreasingBy-from_all_adjacent}

module _ {X K : Type 0} {R : K → K → Ordering} (o : IsTotalOrder R) (key : X → K) where
  -- each key is below the next
  abbrev pub AreAscending : List X → Type 0
  AreAscending xs = AllAdjacentBelow (λ x y. R (key x) (key y) ≡ Less) xs (length xs)

  -- before place i the keys are less than k, and from j on they are greater
  pub record Parts (k : K) (xs : List X) (i j : ℕ) : Type 0 where
    pub less : (n : ℕ) (d : X) → n < i → R (key (get_or xs n d)) k ≡ Less
    pub greater : (n : ℕ) (d : X) → j ≤ n → n < length xs → R (key (get_or xs n d)) k ≡ Greater

  -- where a search ends: at the key, or at the place between the lesser and the greater ones
  abbrev pub EndsAt : K → List X → Result ℕ ℕ → Type 0
  EndsAt k xs r = MatchResult r (λ i. (i < length xs) × HoldsAt (λ x. R (key x) k ≡ Equal) xs i × Parts k xs i (i + 1)) (λ i. (i ≤ length xs) × Parts k xs i i)

  higher : (a b k : K) (r : Ordering) → R b k ≡ r → R a b ≡ Less → ordering_index (R a k) ≤ ordering_index r
  higher a b k Less e lt = omega (arith, ap ordering_index (o.trans a b k lt e))
  higher a b k Equal e lt = omega (arith, ap ordering_index (sym (alike_right o b k a e) ∙ lt))
  higher a b k Greater e lt = at_most (R a k)
    where
      at_most : (s : Ordering) → ordering_index s ≤ 2
      at_most Less = omega arith
      at_most Equal = omega arith
      at_most Greater = omega arith

  rising : (xs : List X) (k : K) → AreAscending xs → IsNonDecreasingBy (λ x. ordering_index (R (key x) k)) xs
  rising xs k up = IsNonDecreasingBy-from_all_adjacent (λ x. ordering_index (R (key x) k)) xs (λ i d lt. higher _ _ k _ refl (up i d lt))

  -- each key is below each later one
  far_below : (xs : List X) → AreAscending xs → (i m : ℕ) (d : X) → i + m + 1 < length xs → R (key (get_or xs i d)) (key (get_or xs (i + m + 1) d)) ≡ Less
  far_below xs up i zero d lt = let same : i + 1 ≡ i + 0 + 1 = omega arith in rw (← same) (up i d (omega arith))
  far_below xs up i (suc m) d lt =
      let same : i + m + 1 + 1 ≡ i + suc m + 1 = omega arith in
      rw (← same) (o.trans _ _ _ (far_below xs up i m d (omega arith)) (up (i + m + 1) d (omega arith)))

  below : (xs : List X) → AreAscending xs → (i j : ℕ) (d : X) → i < j → j < length xs → R (key (get_or xs i d)) (key (get_or xs j d)) ≡ Less
  below xs up i j d lt within =
      let there : i + (j - i - 1) + 1 ≡ j = omega arith in
      rw (← there) (far_below xs up i (j - i - 1) d (omega arith))

  pub ends_at : (xs : List X) (k : K) (r : Result ℕ ℕ) → AreAscending xs → IsSearchInRange r (length xs) → IsBinarySearchResult (λ x. R (key x) k) xs r → EndsAt k xs r
  ends_at xs k (Ok i) up within equal = (
    within,
    equal,
    record {
      less = λ n d lt. sym (alike_right o _ _ _ (equal d)) ∙ below xs up n i d lt within;
      greater = λ n d from lt. o.antisymm _ _ ∙ ap ordering_reverse (sym (o.congr _ _ _ (equal d)) ∙ below xs up i n d (omega arith) lt);
    },
  )
  ends_at xs k (Err i) up within parted =
      let parts = parted (rising xs k up) in
      (within, record { less = λ n d lt. parts.0 n d (omega arith) lt; greater = parts.1 })
