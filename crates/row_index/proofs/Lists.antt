-- Searches, additions and removals in ascending lists of entries, and in such lists cut into blocks.
use Rattle.std.proofs.Common.{◌≡◌, ℕ, zero, suc, ◌+◌, ◌-◌, ◌<◌, ◌≤◌, Bool, true, false, true≢false, not, ◌&&◌, cond, None, Some, Less, List, [], ◌∷◌, ◌++◌, length, take, drop, get_or, filter, find, refl, sym, ap, ◌∙◌, subst, arith}
use Rattle.std.specs.List.{list_all, prefix_len, slice_get}
use Rattle.std.specs.List.Sorted.{IsPartitionedBy, IsPartitionPoint}
use Rattle.row_index.specs.declared.entries.IndexPlace.{IndexPlace}
use Rattle.row_index.specs.Order.{entry_cmp}
use Rattle.row_index.specs.Entries.{Each, IsAscending}

pub both : (a b : Bool) → a && b ≡ true → (a ≡ true) × (b ≡ true)
both true b e = (refl, e)
both false b e = absurd (true≢false (sym e))

module _ {X : Type 0} where
  pub each_at : (P : X → Type 0) (xs : List X) → Each P xs → (i : ℕ) (d : X) → i < length xs → P (get_or xs i d)
  each_at P [] each i d lt = absurd (omega arith)
  each_at P (x ∷ xs) each zero d lt = each.0
  each_at P (x ∷ xs) each (suc i) d lt = each_at P xs each.1 i d (omega arith)

  pub each_get : (P : X → Type 0) (xs : List X) → Each P xs → (i : ℕ) (x : X) → slice_get xs i ≡ Some x → P x
  each_get P [] each i x e = absurd (cc)
  each_get P (y ∷ ys) each zero x e = let same : y ≡ x = cc in subst P same each.0
  each_get P (y ∷ ys) each (suc i) x e = each_get P ys each.1 i x e

  pub each_map : (P Q : X → Type 0) → ((x : X) → P x → Q x) → (xs : List X) → Each P xs → Each Q xs
  each_map P Q f [] each = tt
  each_map P Q f (x ∷ xs) each = (f x each.0, each_map P Q f xs each.1)

  pub each_left : (P : X → Type 0) (xs ys : List X) → Each P (xs ++ ys) → Each P xs
  each_left P [] ys each = tt
  each_left P (x ∷ xs) ys each = (each.0, each_left P xs ys each.1)

  pub each_right : (P : X → Type 0) (xs ys : List X) → Each P (xs ++ ys) → Each P ys
  each_right P [] ys each = each
  each_right P (x ∷ xs) ys each = each_right P xs ys each.1

  pub each_filter : (P : X → Type 0) (q : X → Bool) (xs : List X) → Each P xs → Each P (filter q xs)
  each_filter P q [] each = tt
  each_filter P q (x ∷ xs) each = at (q x) (each_filter P q xs each.1)
    where
      at : (b : Bool) → Each P (filter q xs) → Each P (cond b (x ∷ filter q xs) (filter q xs))
      at true later = (each.0, later)
      at false later = later

  pub all_from_each : (p : X → Bool) (xs : List X) → Each (λ x. p x ≡ true) xs → list_all p xs ≡ true
  all_from_each p [] each = refl
  all_from_each p (x ∷ xs) each = rw each.0 (all_from_each p xs each.1)

  pub each_from_all : (p : X → Bool) (xs : List X) → list_all p xs ≡ true → Each (λ x. p x ≡ true) xs
  each_from_all p [] e = tt
  each_from_all p (x ∷ xs) e = let parts = both (p x) (list_all p xs) e in (parts.0, each_from_all p xs parts.1)

  -- the first element that fails p stands where those that pass it end
  pub find_at_end : (p : X → Bool) (xs : List X) (i : ℕ) → i ≤ length xs → IsPartitionPoint (λ x. p x ≡ true) (λ x. p x ≡ false) xs i → slice_get xs i ≡ find (λ x. not (p x)) xs
  find_at_end p [] i within parted = refl
  find_at_end p (x ∷ xs) zero within parted = rw (parted.1 0 x (omega arith) (omega arith)) refl
  find_at_end p (x ∷ xs) (suc i) within parted =
      rw (parted.0 0 x (omega arith) (omega arith))
      (find_at_end p xs i (omega arith) (λ k d low high. parted.0 (suc k) d (omega arith) (omega arith), λ k d low high. parted.1 (suc k) d (omega arith) (omega arith)))

  pub find_none : (r : X → Bool) (xs : List X) → Each (λ x. r x ≡ false) xs → find r xs ≡ None
  find_none r [] each = refl
  find_none r (x ∷ xs) each = rw each.0 (find_none r xs each.1)

  pub find_later : (p : X → Bool) (xs ys : List X) → list_all p xs ≡ true → find (λ x. not (p x)) (xs ++ ys) ≡ find (λ x. not (p x)) ys
  find_later p [] ys e = refl
  find_later p (x ∷ xs) ys e = let parts = both (p x) (list_all p xs) e in rw parts.0 (find_later p xs ys parts.1)

  pub find_here : (p : X → Bool) (xs ys : List X) → list_all p xs ≡ false → find (λ x. not (p x)) (xs ++ ys) ≡ find (λ x. not (p x)) xs
  find_here p [] ys e = absurd (true≢false e)
  find_here p (x ∷ xs) ys e = at (p x) (find_here p xs ys) e
    where
      at : (b : Bool) → (list_all p xs ≡ false → find (λ x. not (p x)) (xs ++ ys) ≡ find (λ x. not (p x)) xs) → b && list_all p xs ≡ false → cond (not b) (Some x) (find (λ x. not (p x)) (xs ++ ys)) ≡ cond (not b) (Some x) (find (λ x. not (p x)) xs)
      at true later f = later f
      at false later f = refl

-- what passes a test passes it down to the first entry
abbrev pub IsDownward : (IndexPlace → Bool) → Type 0
IsDownward p = (x y : IndexPlace) → entry_cmp x y ≡ Less → p y ≡ true → p x ≡ true

pub partitioned : (p : IndexPlace → Bool) → IsDownward p → (xs : List IndexPlace) → IsAscending xs → IsPartitionedBy p xs
partitioned p down [] up i j d le lt e = absurd (omega arith)
partitioned p down (x ∷ xs) up zero zero d le lt e = e
partitioned p down (x ∷ xs) up zero (suc j) d le lt e = down x (get_or xs j d) (each_at (λ y. entry_cmp x y ≡ Less) xs up.0 j d (omega arith)) e
partitioned p down (x ∷ xs) up (suc i) zero d le lt e = absurd (omega arith)
partitioned p down (x ∷ xs) up (suc i) (suc j) d le lt e = partitioned p down xs up.1 i j d (omega arith) (omega arith) e

-- the first ones that pass are all that pass
pub prefix_within : (p : IndexPlace → Bool) (xs : List IndexPlace) → prefix_len p xs ≤ length xs
prefix_within p [] = omega arith
prefix_within p (x ∷ xs) = at (p x) (prefix_within p xs)
  where
    at : (b : Bool) → prefix_len p xs ≤ length xs → cond b (1 + prefix_len p xs) 0 ≤ length (x ∷ xs)
    at true later = omega arith
    at false later = omega arith

pub prefix_parted : (p : IndexPlace → Bool) → IsDownward p → (xs : List IndexPlace) → IsAscending xs → IsPartitionPoint (λ x. p x ≡ true) (λ x. p x ≡ false) xs (prefix_len p xs)
prefix_parted p down [] up = (λ k d low high. absurd (omega arith), λ k d low high. absurd (omega arith))
prefix_parted p down (x ∷ xs) up = at (p x) refl (prefix_parted p down xs up.1)
  where
    Parted : ℕ → Type 0
    Parted n = IsPartitionPoint (λ y. p y ≡ true) (λ y. p y ≡ false) xs n

    front : (n : ℕ) → p x ≡ true → Parted n → (k : ℕ) (d : IndexPlace) → k < 1 + n → p (get_or (x ∷ xs) k d) ≡ true
    front n e later zero d high = e
    front n e later (suc k) d high = later.0 k d (omega arith) (omega arith)

    back : (n : ℕ) → Parted n → (k : ℕ) (d : IndexPlace) → 1 + n ≤ k → k < length (x ∷ xs) → p (get_or (x ∷ xs) k d) ≡ false
    back n later zero d low high = absurd (omega arith)
    back n later (suc k) d low high = later.1 k d (omega arith) (omega arith)

    none : p x ≡ false → (k : ℕ) (d : IndexPlace) → k < length (x ∷ xs) → p (get_or (x ∷ xs) k d) ≡ false
    none e zero d high = e
    none e (suc k) d high = not_at (p (get_or xs k d)) refl
      where
        not_at : (b : Bool) → p (get_or xs k d) ≡ b → b ≡ false
        not_at true f = absurd (true≢false (sym (down x (get_or xs k d) (each_at (λ y. entry_cmp x y ≡ Less) xs up.0 k d (omega arith)) f) ∙ e))
        not_at false f = refl

    at : (b : Bool) → p x ≡ b → Parted (prefix_len p xs) → IsPartitionPoint (λ y. p y ≡ true) (λ y. p y ≡ false) (x ∷ xs) (cond b (1 + prefix_len p xs) 0)
    at true e later = (λ k d low high. front (prefix_len p xs) e later k d high, λ k d low high. back (prefix_len p xs) later k d low high)
    at false e later = (λ k d low high. absurd (omega arith), λ k d low high. none e k d high)

-- all pass where the last one does
pub all_by_last : (p : IndexPlace → Bool) → IsDownward p → (xs : List IndexPlace) → IsAscending xs → (last : IndexPlace) → slice_get xs (length xs - 1) ≡ Some last → p last ≡ list_all p xs
all_by_last p down [] up last e = absurd (cc)
all_by_last p down (x ∷ []) up last e = let same : x ≡ last = cc in rw same (at (p last))
  where
    at : (b : Bool) → b ≡ b && true
    at true = refl
    at false = refl
all_by_last p down (x ∷ y ∷ ys) up last e =
    let same : length (x ∷ y ∷ ys) - 1 ≡ suc (length (y ∷ ys) - 1) = omega arith in
    let later = rw same at e in
    let rest = all_by_last p down (y ∷ ys) up.1 last later in
    rw (← rest) (at (p last) refl (each_get (λ z. entry_cmp x z ≡ Less) (y ∷ ys) up.0 (length (y ∷ ys) - 1) last later))
  where
    at : (b : Bool) → p last ≡ b → entry_cmp x last ≡ Less → b ≡ p x && b
    at true f lt = rw (down x last lt f) refl
    at false f lt = grind arith

-- the parts of an ascending list
pub ascending_front : (xs ys : List IndexPlace) → IsAscending (xs ++ ys) → IsAscending xs
ascending_front [] ys up = tt
ascending_front (x ∷ xs) ys up = (each_left (λ later. entry_cmp x later ≡ Less) xs ys up.0, ascending_front xs ys up.1)

pub ascending_back : (xs ys : List IndexPlace) → IsAscending (xs ++ ys) → IsAscending ys
ascending_back [] ys up = up
ascending_back (x ∷ xs) ys up = ascending_back xs ys up.1

pub take_drop : (n : ℕ) (xs : List IndexPlace) → take n xs ++ drop n xs ≡ xs
take_drop zero xs = refl
take_drop (suc n) [] = refl
take_drop (suc n) (x ∷ xs) = ap (λ (rest : List IndexPlace). x ∷ rest) (take_drop n xs)

pub ascending_take : (n : ℕ) (xs part : List IndexPlace) → IsAscending xs → part ≡ take n xs → IsAscending part
ascending_take n xs part up e = subst IsAscending (sym e) (ascending_front (take n xs) (drop n xs) (subst IsAscending (sym (take_drop n xs)) up))

pub ascending_drop : (n : ℕ) (xs part : List IndexPlace) → IsAscending xs → part ≡ drop n xs → IsAscending part
ascending_drop n xs part up e = subst IsAscending (sym e) (ascending_back (take n xs) (drop n xs) (subst IsAscending (sym (take_drop n xs)) up))
