-- What a search by the key finds among the rows of a table.
use Rattle.std.proofs.Common.{◌≡◌, ℕ, zero, suc, ◌+◌, ◌<◌, Bool, true, false, true≢false, ◌&&◌, List, [], ◌∷◌, length, get_or, Ordering, Less, Equal, Greater, Some, None, Result, Ok, Err, MatchResult, is_eq, is_lt, sym, ap, refl, ⊎_elim, arith}
use Rattle.std.specs.List.Sorted.{IsSearchInRange, IsBinarySearchResult}
use Rattle.std.specs.Cmp.{IsTotalOrder}
use Rattle.std.proofs.lemmas.Bool.{cases_lt}
use Rattle.q_base.specs.Tables.{ascends, rows_of, value_of}
use Rattle.q_base.proofs.Searches.{ends_at}

both : (a b : Bool) → a && b ≡ true → (a ≡ true) × (b ≡ true)
both true b e = (refl, e)
both false b e = absurd (true≢false (sym e))

is_less : (r : Ordering) → is_lt r ≡ true → r ≡ Less
is_less Less e = refl
is_less Equal e = absurd (true≢false (sym e))
is_less Greater e = absurd (true≢false (sym e))

module _ {K V : Type 0} (R : K → K → Ordering) where
  next_below : (rows : List (K × V)) → ascends R rows ≡ true → (n : ℕ) (d : K × V) → n + 1 < length rows → R (get_or rows n d).0 (get_or rows (n + 1) d).0 ≡ Less
  next_below [] up n d lt = absurd (omega arith)
  next_below (row ∷ []) up n d lt = absurd (omega arith)
  next_below (row ∷ next ∷ rows) up zero d lt = is_less _ (both _ _ up).0
  next_below (row ∷ next ∷ rows) up (suc n) d lt = let same : suc (n + 1) ≡ suc n + 1 = omega arith in rw (← same) (next_below (next ∷ rows) (both _ _ up).1 n d (omega arith))

  module _ (k : K) where
    -- where no row is of the key
    value_of_absent : (rows : List (K × V)) → ((n : ℕ) (d : K × V) → n < length rows → is_eq (R (get_or rows n d).0 k) ≡ false) → value_of R k rows ≡ None
    value_of_absent [] apart = refl
    value_of_absent (row ∷ rows) apart = rw (apart 0 row (omega arith)) (value_of_absent rows (λ n d lt. apart (suc n) d (omega arith)))

    rows_of_absent : (rows : List (K × V)) → ((n : ℕ) (d : K × V) → n < length rows → is_eq (R (get_or rows n d).0 k) ≡ false) → rows_of R k rows ≡ []
    rows_of_absent [] apart = refl
    rows_of_absent (row ∷ rows) apart = rw (apart 0 row (omega arith)) (rows_of_absent rows (λ n d lt. apart (suc n) d (omega arith)))

    -- where the row at i alone is of the key
    value_of_found : (rows : List (K × V)) (i : ℕ) (d : K × V) → i < length rows → ((n : ℕ) → n < i → is_eq (R (get_or rows n d).0 k) ≡ false) → is_eq (R (get_or rows i d).0 k) ≡ true → value_of R k rows ≡ Some (get_or rows i d).1
    value_of_found [] i d within before same = absurd (omega arith)
    value_of_found (row ∷ rows) zero d within before same = rw same refl
    value_of_found (row ∷ rows) (suc i) d within before same = rw (before 0 (omega arith)) (value_of_found rows i d (omega arith) (λ n lt. before (suc n) (omega arith)) same)

    rows_of_found : (rows : List (K × V)) (i : ℕ) (d : K × V) → i < length rows → ((n : ℕ) → n < i → is_eq (R (get_or rows n d).0 k) ≡ false) → is_eq (R (get_or rows i d).0 k) ≡ true → ((n : ℕ) (d : K × V) → i < n → n < length rows → is_eq (R (get_or rows n d).0 k) ≡ false) → rows_of R k rows ≡ get_or rows i d ∷ []
    rows_of_found [] i d within before same after = absurd (omega arith)
    rows_of_found (row ∷ rows) zero d within before same after = rw same (ap (λ rest. row ∷ rest) (rows_of_absent rows (λ n e lt. after (suc n) e (omega arith) (omega arith))))
    rows_of_found (row ∷ rows) (suc i) d within before same after = rw (before 0 (omega arith)) (rows_of_found rows i d (omega arith) (λ n lt. before (suc n) (omega arith)) same (λ n e from lt. after (suc n) e (omega arith) (omega arith)))

  -- a search's answer gives the value and the only row of the key
  pub found_by : IsTotalOrder R → (k : K) (rows : List (K × V)) (r : Result ℕ ℕ) → ascends R rows ≡ true → IsSearchInRange r (length rows) → IsBinarySearchResult (λ row. R row.0 k) rows r
      → MatchResult r (λ i. (d : K × V) → (value_of R k rows ≡ Some (get_or rows i d).1) × (rows_of R k rows ≡ get_or rows i d ∷ [])) (λ _. (value_of R k rows ≡ None) × (rows_of R k rows ≡ []))
  found_by o k rows (Ok i) up within found =
      let ends = ends_at o (λ (row : K × V). row.0) rows k (Ok i) (next_below rows up) within found in
      λ d.
      let before : (n : ℕ) → n < i → is_eq (R (get_or rows n d).0 k) ≡ false = λ n lt. ap is_eq (ends.2.less n d lt) in
      let same = ap is_eq (ends.1 d) in
      (value_of_found k rows i d within before same, rows_of_found k rows i d within before same (λ n e from lt. ap is_eq (ends.2.greater n e (omega arith) lt)))
  found_by o k rows (Err i) up within parted =
      let ends = ends_at o (λ (row : K × V). row.0) rows k (Err i) (next_below rows up) within parted in
      let apart : (n : ℕ) (d : K × V) → n < length rows → is_eq (R (get_or rows n d).0 k) ≡ false = λ n d lt. ⊎_elim (λ l. ap is_eq (ends.1.less n d l)) (λ l. ap is_eq (ends.1.greater n d l lt)) (cases_lt n i) in
      (value_of_absent k rows apart, rows_of_absent k rows apart)
