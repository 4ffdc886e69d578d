-- An entry put into an ascending list at its place, and taken out of it.
use Rattle.std.proofs.Common.{◌≡◌, ℕ, zero, suc, ◌≤◌, Bool, true, false, true≢false, not, cond, Ordering, Less, Equal, Greater, List, [], ◌∷◌, length, insert, remove, filter, refl, sym, ap, ◌∙◌, arith}
use Rattle.std.specs.List.{slice_get}
use Rattle.std.specs.List.Sorted.{IsPartitionPoint}
use Rattle.std.specs.Ordering.{ordering_reverse, is_eq, is_lt}
use Rattle.std.specs.Cmp.{IsTotalOrder}
use Rattle.row_index.specs.declared.entries.IndexPlace.{IndexPlace}
use Rattle.row_index.specs.Order.{value_cmp, entry_cmp}
use Rattle.row_index.specs.Entries.{Each, IsAscending, by_order, is_at, with_entry, without_entry}
use Rattle.row_index.proofs.Orders.{entries_total, less_is}
use Rattle.row_index.proofs.Lists.{each_map, each_filter}

-- before place i the entries are less than this one, and from i on they aren't
abbrev pub PartsAt : IndexPlace → List IndexPlace → ℕ → Type 0
PartsAt entry xs i = IsPartitionPoint (λ x. is_lt (entry_cmp x entry) ≡ true) (λ x. is_lt (entry_cmp x entry) ≡ false) xs i

parts_tail : (entry x : IndexPlace) (xs : List IndexPlace) (i : ℕ) → PartsAt entry (x ∷ xs) (suc i) → PartsAt entry xs i
parts_tail entry x xs i parted = (λ k d low high. parted.0 (suc k) d (omega arith) (omega arith), λ k d low high. parted.1 (suc k) d (omega arith) (omega arith))

-- where it is there already
pub with_entry_there : (entry : IndexPlace) (xs : List IndexPlace) (i : ℕ) → i ≤ length xs → PartsAt entry xs i → is_at entry (slice_get xs i) ≡ true → with_entry entry xs ≡ xs
with_entry_there entry [] i within parted e = absurd (true≢false (sym e))
with_entry_there entry (x ∷ xs) zero within parted e = at (entry_cmp x entry) e
  where
    at : (r : Ordering) → is_eq r ≡ true → by_order r (x ∷ with_entry entry xs) (x ∷ xs) (entry ∷ x ∷ xs) ≡ x ∷ xs
    at Less f = absurd (true≢false (sym f))
    at Equal f = refl
    at Greater f = absurd (true≢false (sym f))
with_entry_there entry (x ∷ xs) (suc i) within parted e =
    let less : entry_cmp x entry ≡ Less = less_is _ (parted.0 0 x (omega arith) (omega arith)) in
    rw less (ap (λ (rest : List IndexPlace). x ∷ rest) (with_entry_there entry xs i (omega arith) (parts_tail entry x xs i parted) e))

-- where it isn't there yet
pub with_entry_new : (entry : IndexPlace) (xs : List IndexPlace) (i : ℕ) → i ≤ length xs → PartsAt entry xs i → is_at entry (slice_get xs i) ≡ false → with_entry entry xs ≡ insert xs i entry
with_entry_new entry [] zero within parted e = refl
with_entry_new entry [] (suc i) within parted e = absurd (omega arith)
with_entry_new entry (x ∷ xs) zero within parted e = at (entry_cmp x entry) (parted.1 0 x (omega arith) (omega arith)) e
  where
    at : (r : Ordering) → is_lt r ≡ false → is_eq r ≡ false → by_order r (x ∷ with_entry entry xs) (x ∷ xs) (entry ∷ x ∷ xs) ≡ entry ∷ x ∷ xs
    at Less f g = absurd (true≢false f)
    at Equal f g = absurd (true≢false g)
    at Greater f g = refl
with_entry_new entry (x ∷ xs) (suc i) within parted e =
    let less : entry_cmp x entry ≡ Less = less_is _ (parted.0 0 x (omega arith) (omega arith)) in
    rw less (ap (λ (rest : List IndexPlace). x ∷ rest) (with_entry_new entry xs i (omega arith) (parts_tail entry x xs i parted) e))

pub filter_all : {X : Type 0} (q : X → Bool) (xs : List X) → Each (λ x. q x ≡ true) xs → filter q xs ≡ xs
filter_all q [] each = refl
filter_all q (x ∷ xs) each = rw each.0 (ap (λ rest. x ∷ rest) (filter_all q xs each.1))

each_filtered : (P : IndexPlace → Type 0) (entry : IndexPlace) (xs : List IndexPlace) → Each P xs → Each P (without_entry entry xs)
each_filtered P entry xs each = each_filter P (λ x. not (is_eq (entry_cmp x entry))) xs each

pub ascending_without : (entry : IndexPlace) (xs : List IndexPlace) → IsAscending xs → IsAscending (without_entry entry xs)
ascending_without entry [] up = tt
ascending_without entry (x ∷ xs) up = at (not (is_eq (entry_cmp x entry))) (ascending_without entry xs up.1)
  where
    at : (b : Bool) → IsAscending (without_entry entry xs) → IsAscending (cond b (x ∷ without_entry entry xs) (without_entry entry xs))
    at true rest = (each_filtered (λ later. entry_cmp x later ≡ Less) entry xs up.0, rest)
    at false rest = rest

each_with : (P : IndexPlace → Type 0) (entry : IndexPlace) (xs : List IndexPlace) → Each P xs → P entry → Each P (with_entry entry xs)
each_with P entry [] each here = (here, tt)
each_with P entry (x ∷ xs) each here = at (entry_cmp x entry) (each_with P entry xs each.1 here)
  where
    at : (r : Ordering) → Each P (with_entry entry xs) → Each P (by_order r (x ∷ with_entry entry xs) (x ∷ xs) (entry ∷ x ∷ xs))
    at Less later = (each.0, later)
    at Equal later = each
    at Greater later = (here, each)

module _ (o : IsTotalOrder value_cmp) where
  abbrev order : IsTotalOrder entry_cmp
  order = entries_total o

  greater_back : (x y : IndexPlace) → entry_cmp x y ≡ Greater → entry_cmp y x ≡ Less
  greater_back x y e = order.antisymm y x ∙ ap ordering_reverse e

  -- an entry above one that isn't less than a given one is greater than it
  pub later_greater : (x y entry : IndexPlace) → entry_cmp x y ≡ Less → is_lt (entry_cmp x entry) ≡ false → entry_cmp y entry ≡ Greater
  later_greater x y entry lt e = order.antisymm y entry ∙ ap ordering_reverse (at (entry_cmp x entry) refl e)
    where
      at : (r : Ordering) → entry_cmp x entry ≡ r → is_lt r ≡ false → entry_cmp entry y ≡ Less
      at Less f g = absurd (true≢false g)
      at Equal f g = sym (order.congr x entry y f) ∙ lt
      at Greater f g = order.trans entry x y (greater_back x entry f) lt

  pub apart : (entry x : IndexPlace) (xs : List IndexPlace) → is_lt (entry_cmp x entry) ≡ false → Each (λ later. entry_cmp x later ≡ Less) xs → Each (λ later. not (is_eq (entry_cmp later entry)) ≡ true) xs
  apart entry x xs e each = each_map (λ later. entry_cmp x later ≡ Less) (λ later. not (is_eq (entry_cmp later entry)) ≡ true) (λ later lt. ap (λ r. not (is_eq r)) (later_greater x later entry lt e)) xs each

  pub without_entry_there : (entry : IndexPlace) (xs : List IndexPlace) (i : ℕ) → IsAscending xs → i ≤ length xs → PartsAt entry xs i → is_at entry (slice_get xs i) ≡ true → without_entry entry xs ≡ remove xs i
  without_entry_there entry [] i up within parted e = absurd (true≢false (sym e))
  without_entry_there entry (x ∷ xs) zero up within parted e = rw e (filter_all _ xs (apart entry x xs (parted.1 0 x (omega arith) (omega arith)) up.0))
  without_entry_there entry (x ∷ xs) (suc i) up within parted e =
      let less : entry_cmp x entry ≡ Less = less_is _ (parted.0 0 x (omega arith) (omega arith)) in
      rw less (ap (λ (rest : List IndexPlace). x ∷ rest) (without_entry_there entry xs i up.1 (omega arith) (parts_tail entry x xs i parted) e))

  pub without_entry_absent : (entry : IndexPlace) (xs : List IndexPlace) (i : ℕ) → IsAscending xs → i ≤ length xs → PartsAt entry xs i → is_at entry (slice_get xs i) ≡ false → without_entry entry xs ≡ xs
  without_entry_absent entry [] i up within parted e = refl
  without_entry_absent entry (x ∷ xs) zero up within parted e = rw e (ap (λ (rest : List IndexPlace). x ∷ rest) (filter_all _ xs (apart entry x xs (parted.1 0 x (omega arith) (omega arith)) up.0)))
  without_entry_absent entry (x ∷ xs) (suc i) up within parted e =
      let less : entry_cmp x entry ≡ Less = less_is _ (parted.0 0 x (omega arith) (omega arith)) in
      rw less (ap (λ (rest : List IndexPlace). x ∷ rest) (without_entry_absent entry xs i up.1 (omega arith) (parts_tail entry x xs i parted) e))

  pub ascending_with : (entry : IndexPlace) (xs : List IndexPlace) → IsAscending xs → IsAscending (with_entry entry xs)
  ascending_with entry [] up = (tt, tt)
  ascending_with entry (x ∷ xs) up = at (entry_cmp x entry) refl (ascending_with entry xs up.1)
    where
      at : (r : Ordering) → entry_cmp x entry ≡ r → IsAscending (with_entry entry xs) → IsAscending (by_order r (x ∷ with_entry entry xs) (x ∷ xs) (entry ∷ x ∷ xs))
      at Less e rest = (each_with (λ later. entry_cmp x later ≡ Less) entry xs up.0 e, rest)
      at Equal e rest = up
      at Greater e rest =
          let before = greater_back x entry e in
          ((before, each_map (λ later. entry_cmp x later ≡ Less) (λ later. entry_cmp entry later ≡ Less) (λ later lt. order.trans entry x later before lt) xs up.0), up)
