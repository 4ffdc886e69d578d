-- Lists whose numbers ascend.
use Rattle.std.proofs.Common.{◌≡◌, ℕ, zero, suc, ◌+◌, ◌<◌, ◌≤◌, Bool, true, false, cond, nat_lt, List, [], ◌∷◌, ◌++◌, length, get_or, Ordering, Less, Equal, Greater, Result, Ok, Err, MatchResult, nat_cmp, Some, None, sym, refl, arith}
use Rattle.std.specs.Prelude.{filter}
use Rattle.std.specs.List.Sorted.{IsSearchInRange, IsBinarySearchResult}
use Rattle.std.specs.Ordering.{ordering_index}
use Rattle.std.proofs.lemmas.Cmp.{ranked}
use Rattle.std.proofs.lemmas.Bool.Decides.{nat_tests}
use Rattle.cat_core.specs.Ages.{AreBetween, IsPlace}

-- what is compared with n falls nowhere where the numbers rise
higher : (a b n : ℕ) → a ≤ b → ordering_index (nat_cmp a n) ≤ ordering_index (nat_cmp b n)
higher a b n le = go (nat_cmp a n) (nat_cmp b n) refl refl
  where
    go : (r s : Ordering) → nat_cmp a n ≡ r → nat_cmp b n ≡ s → ordering_index r ≤ ordering_index s
    go Less Less e f = omega arith
    go Less Equal e f = omega arith
    go Less Greater e f = omega arith
    go Equal Less e f = let h : a ≡ n = ranked a n Equal (sym e) in let k : b < n = ranked b n Less (sym f) in absurd (omega (arith, le, h, k))
    go Equal Equal e f = omega arith
    go Equal Greater e f = omega arith
    go Greater Less e f = let h : n < a = ranked a n Greater (sym e) in let k : b < n = ranked b n Less (sym f) in absurd (omega (arith, le, h, k))
    go Greater Equal e f = let h : n < a = ranked a n Greater (sym e) in let k : b ≡ n = ranked b n Equal (sym f) in absurd (omega (arith, le, h, k))
    go Greater Greater e f = omega arith

module _ {X : Type 0} (number : X → ℕ) where
  pub at_least : (xs : List X) (low high : ℕ) → AreBetween number low xs high → (i : ℕ) (d : X) → i < length xs → low ≤ number (get_or xs i d)
  at_least [] low high up i d lt = absurd (omega arith)
  at_least (x ∷ xs) low high up zero d lt = up.0
  at_least (x ∷ xs) low high up (suc i) d lt = omega (arith, up.0, at_least xs (number x + 1) high up.1 i d (omega arith))

  rising : (xs : List X) (low high : ℕ) → AreBetween number low xs high → (i j : ℕ) (d : X) → i ≤ j → j < length xs → number (get_or xs i d) ≤ number (get_or xs j d)
  rising [] low high up i j d le lt = absurd (omega arith)
  rising (x ∷ xs) low high up zero zero d le lt = omega arith
  rising (x ∷ xs) low high up zero (suc j) d le lt = omega (arith, at_least xs (number x + 1) high up.1 j d (omega arith))
  rising (x ∷ xs) low high up (suc i) zero d le lt = absurd (omega arith)
  rising (x ∷ xs) low high up (suc i) (suc j) d le lt = rising xs (number x + 1) high up.1 i j d (omega arith) (omega arith)

  apart : (a n k i : ℕ) → (k < i → nat_cmp a n ≡ Less) → (i ≤ k → nat_cmp a n ≡ Greater) → a ≡ n → ⊥
  apart a n k i less greater e = go (nat_lt k i) refl
    where
      go : (b : Bool) → nat_lt k i ≡ b → ⊥
      go true h = let lt : a < n = ranked a n Less (sym (less (grind (arith, nat_tests, h)))) in omega (arith, lt, e)
      go false h = let lt : n < a = ranked a n Greater (sym (greater (grind (arith, nat_tests, h)))) in omega (arith, lt, e)

  -- what a binary search answers
  pub place_searched : (xs : List X) (n high : ℕ) (r : Result ℕ ℕ) → AreBetween number 0 xs high → IsSearchInRange r (length xs) → IsBinarySearchResult (λ x. nat_cmp (number x) n) xs r → MatchResult r (λ i. IsPlace number n xs (Some i)) (λ _. IsPlace number n xs None)
  place_searched xs n high (Ok i) up within found = (within, λ d. ranked _ n _ (sym (found d)))
  place_searched xs n high (Err i) up within parted =
      let parts = parted (λ k j d le lt. higher _ _ n (rising xs 0 high up k j d le lt)) in
      λ k d lt. apart (number (get_or xs k d)) n k i (λ below. parts.0 k d (omega arith) below) (λ from. parts.1 k d from lt)

  weaker : (xs : List X) (lower low high : ℕ) → lower ≤ low → AreBetween number low xs high → AreBetween number lower xs high
  weaker [] lower low high le up = omega (arith, le, up)
  weaker (x ∷ xs) lower low high le up = (omega (arith, le, up.0), up.1)

  pub between_filter : (p : X → Bool) (xs : List X) (low high : ℕ) → AreBetween number low xs high → AreBetween number low (filter p xs) high
  between_filter p [] low high up = up
  between_filter p (x ∷ xs) low high up = go (p x) (between_filter p xs (number x + 1) high up.1)
    where
      go : (b : Bool) → AreBetween number (number x + 1) (filter p xs) high → AreBetween number low (cond b (x ∷ filter p xs) (filter p xs)) high
      go true later = (up.0, later)
      go false later = weaker (filter p xs) low (number x + 1) high (omega (arith, up.0)) later

  pub between_push : (xs : List X) (y : X) (low high : ℕ) → AreBetween number low xs high → high ≤ number y → AreBetween number low (xs ++ y ∷ []) (number y + 1)
  between_push [] y low high up le = (omega (arith, le, up), omega arith)
  between_push (x ∷ xs) y low high up le = (up.0, between_push xs y (number x + 1) high up.1 le)

-- no place below n
pub past : (i n : ℕ) → (i < n → ⊥) → n ≤ i
past i n not_below = go (nat_lt i n) refl
  where
    go : (b : Bool) → nat_lt i n ≡ b → n ≤ i
    go true h = absurd (not_below (grind (arith, nat_tests, h)))
    go false h = grind (arith, nat_tests, h)
