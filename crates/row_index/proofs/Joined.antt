-- An ascending list of entries that stands in parts: searches and changes of one part.
use Rattle.std.proofs.Common.{◌≡◌, ℕ, zero, suc, ◌+◌, ◌-◌, ◌<◌, ◌≤◌, Bool, true, false, true≢false, not, ◌&&◌, cond, ◌==◌, Some, Result, Ok, Err, OnOk, OnErr, Ordering, Less, Equal, Greater, List, [], ◌∷◌, ◌++◌, length, take, drop, get_or, set, insert, remove, find, refl, sym, ap, ◌∙◌, subst, ◌⊎◌, inl, inr, ⊎_elim, append_assoc, length-append, length-take, length-drop, arith}
use Rattle.std.specs.List.{list_all, slice_get}
use Rattle.std.specs.List.Sorted.{IsPartitionedBy, IsPartitionPoint}
use Rattle.std.specs.Option.{option_and_then}
use Rattle.std.specs.Ordering.{is_eq, is_lt}
use Rattle.std.specs.Cmp.{IsTotalOrder}
use Rattle.row_index.specs.declared.entries.IndexPlace.{IndexPlace}
use Rattle.row_index.specs.Order.{value_cmp, entry_cmp}
use Rattle.row_index.specs.Entries.{AreFilled, Each, IsAscending, IsFilled, IsHalved, by_order, joined, joined_with, with_entry, without_entry}
use Rattle.std.proofs.lemmas.Bool.Decides.{nat_tests}
use Rattle.row_index.proofs.Orders.{less_is}
use Rattle.row_index.proofs.Lists.{each_at, each_map, each_left, each_right, all_from_each, each_from_all, both, find_here, find_later, ascending_back, ascending_front, IsDownward}
use Rattle.row_index.proofs.Edits.{filter_all, apart}

across : (xs ys : List IndexPlace) → IsAscending (xs ++ ys) → Each (λ x. Each (λ y. entry_cmp x y ≡ Less) ys) xs
across [] ys up = tt
across (x ∷ xs) ys up = (each_right (λ later. entry_cmp x later ≡ Less) xs ys up.0, across xs ys up.1)

-- where entries follow, one of which passes, all that come before it pass
front_passes : (p : IndexPlace → Bool) → IsDownward p → (xs ys : List IndexPlace) → IsAscending (xs ++ ys) → 0 < length ys → list_all p ys ≡ true → list_all p xs ≡ true
front_passes p down xs [] up some e = absurd (omega arith)
front_passes p down xs (y ∷ ys) up some e =
    all_from_each p xs
    (each_map (λ x. Each (λ z. entry_cmp x z ≡ Less) (y ∷ ys)) (λ x. p x ≡ true) (λ x each. down x y each.0 (both (p y) (list_all p ys) e).0) xs (across xs (y ∷ ys) up))

append_nil : (xs : List IndexPlace) → xs ++ [] ≡ xs
append_nil [] = refl
append_nil (x ∷ xs) = ap (λ (rest : List IndexPlace). x ∷ rest) (append_nil xs)

all_append : (p : IndexPlace → Bool) (xs ys : List IndexPlace) → list_all p (xs ++ ys) ≡ list_all p xs && list_all p ys
all_append p [] ys = refl
all_append p (x ∷ xs) ys = rw (all_append p xs ys) (assoc (p x) (list_all p xs) (list_all p ys))
  where
    assoc : (a b c : Bool) → a && (b && c) ≡ (a && b) && c
    assoc true b c = refl
    assoc false b c = refl

not_zero : (n : ℕ) → 0 < n → (n == 0) ≡ false
not_zero n some = grind (arith, nat_tests)

module _ {X : Type 0} (f : X → List IndexPlace) where
  each_head : (P : IndexPlace → Type 0) (bs : List X) → Each P (joined f bs) → (j : ℕ) (y : IndexPlace) (ys : List IndexPlace) (e : X) → j < length bs → f (get_or bs j e) ≡ y ∷ ys → P y
  each_head P [] each j y ys e lt same = absurd (omega arith)
  each_head P (b ∷ bs) each zero y ys e lt same = (subst (Each P) same (each_left P (f b) (joined f bs) each)).0
  each_head P (b ∷ bs) each (suc j) y ys e lt same = each_head P bs (each_right P (f b) (joined f bs) each) j y ys e (omega arith) same

  -- once a part doesn't pass, none after it does
  pub parts_partitioned : (p : IndexPlace → Bool) → IsDownward p → (bs : List X) → IsAscending (joined f bs) → AreFilled f bs → IsPartitionedBy (λ b. list_all p (f b)) bs
  parts_partitioned p down [] up filled i j d le lt e = absurd (omega arith)
  parts_partitioned p down (b ∷ bs) up filled zero zero d le lt e = e
  parts_partitioned p down (b ∷ bs) up filled zero (suc j) d le lt e = at (f (get_or bs j d)) refl (each_at (λ part. IsFilled (f part)) bs filled.1 j d (omega arith)) e
    where
      at : (later : List IndexPlace) → f (get_or bs j d) ≡ later → 0 < length later → list_all p later ≡ true → list_all p (f b) ≡ true
      at [] same long g = absurd (omega arith)
      at (y ∷ ys) same long g =
          all_from_each p (f b)
          (each_map (λ x. Each (λ z. entry_cmp x z ≡ Less) (joined f bs)) (λ x. p x ≡ true)
          (λ x each. down x y (each_head (λ z. entry_cmp x z ≡ Less) bs each j y ys d (omega arith) same) (both (p y) (list_all p ys) g).0)
          (f b) (across (f b) (joined f bs) up))
  parts_partitioned p down (b ∷ bs) up filled (suc i) zero d le lt e = absurd (omega arith)
  parts_partitioned p down (b ∷ bs) up filled (suc i) (suc j) d le lt e = parts_partitioned p down bs (ascending_back (f b) (joined f bs) up) filled.1 i j d (omega arith) (omega arith) e

  pub filled_joined : (bs : List X) → AreFilled f bs → 0 < length bs → 0 < length (joined f bs)
  filled_joined [] filled some = absurd (omega arith)
  filled_joined (b ∷ bs) filled some = omega (arith, filled.0, length-append (f b) (joined f bs))

  pub none_joined : (bs : List X) → AreFilled f bs → (length bs == 0) ≡ (length (joined f bs) == 0)
  none_joined [] filled = refl
  none_joined (b ∷ bs) filled = not_zero (length (b ∷ bs)) (omega arith) ∙ sym (not_zero (length (joined f (b ∷ bs))) (filled_joined (b ∷ bs) filled (omega arith)))

  -- all entries pass where those of the last part do
  pub all_by_last_part : (p : IndexPlace → Bool) → IsDownward p → (bs : List X) → IsAscending (joined f bs) → AreFilled f bs → (last : X) → slice_get bs (length bs - 1) ≡ Some last → list_all p (f last) ≡ list_all p (joined f bs)
  all_by_last_part p down [] up filled last e = absurd (cc)
  all_by_last_part p down (b ∷ []) up filled last e = let same : b ≡ last = cc in rw (same, append_nil (f last)) refl
  all_by_last_part p down (b ∷ c ∷ bs) up filled last e =
      let same : length (b ∷ c ∷ bs) - 1 ≡ suc (length (c ∷ bs) - 1) = omega arith in
      all_by_last_part p down (c ∷ bs) (ascending_back (f b) (joined f (c ∷ bs)) up) filled.1 last (rw same at e)
      ∙ at (list_all p (joined f (c ∷ bs))) refl
      ∙ sym (all_append p (f b) (joined f (c ∷ bs)))
    where
      at : (r : Bool) → list_all p (joined f (c ∷ bs)) ≡ r → r ≡ list_all p (f b) && r
      at true g = rw (front_passes p down (f b) (joined f (c ∷ bs)) up (filled_joined (c ∷ bs) filled.1 (omega arith)) g) refl
      at false g = grind arith

  -- before place k the parts pass, and from it on none does
  abbrev pub PartsPart : (IndexPlace → Bool) → List X → ℕ → Type 0
  PartsPart p bs k = IsPartitionPoint (λ b. list_all p (f b) ≡ true) (λ b. list_all p (f b) ≡ false) bs k

  part_tail : (p : IndexPlace → Bool) (b : X) (bs : List X) (k : ℕ) → PartsPart p (b ∷ bs) (suc k) → PartsPart p bs k
  part_tail p b bs k parted = (λ i d low high. parted.0 (suc i) d (omega arith) (omega arith), λ i d low high. parted.1 (suc i) d (omega arith) (omega arith))

  -- the first entry that doesn't pass stands in the first part that doesn't
  pub find_in_parts : (p : IndexPlace → Bool) (bs : List X) (k : ℕ) → k ≤ length bs → PartsPart p bs k → option_and_then (λ b. find (λ x. not (p x)) (f b)) (slice_get bs k) ≡ find (λ x. not (p x)) (joined f bs)
  find_in_parts p [] k within parted = refl
  find_in_parts p (b ∷ bs) zero within parted = sym (find_here p (f b) (joined f bs) (parted.1 0 b (omega arith) (omega arith)))
  find_in_parts p (b ∷ bs) (suc k) within parted =
      find_in_parts p bs k (omega arith) (part_tail p b bs k parted) ∙ sym (find_later p (f b) (joined f bs) (parted.0 0 b (omega arith) (omega arith)))

-- an entry put into a list of which all or not all entries are less
with_entry_back : (entry : IndexPlace) (xs ys : List IndexPlace) → list_all (λ x. is_lt (entry_cmp x entry)) xs ≡ true → with_entry entry (xs ++ ys) ≡ xs ++ with_entry entry ys
with_entry_back entry [] ys e = refl
with_entry_back entry (x ∷ xs) ys e =
    let parts = both (is_lt (entry_cmp x entry)) (list_all (λ x. is_lt (entry_cmp x entry)) xs) e in
    rw (less_is _ parts.0) (ap (λ (rest : List IndexPlace). x ∷ rest) (with_entry_back entry xs ys parts.1))

with_entry_front : (entry : IndexPlace) (xs ys : List IndexPlace) → list_all (λ x. is_lt (entry_cmp x entry)) xs ≡ false → with_entry entry (xs ++ ys) ≡ with_entry entry xs ++ ys
with_entry_front entry [] ys e = absurd (true≢false e)
with_entry_front entry (x ∷ xs) ys e = at (entry_cmp x entry) (with_entry_front entry xs ys) e
  where
    at : (r : Ordering) → (list_all (λ x. is_lt (entry_cmp x entry)) xs ≡ false → with_entry entry (xs ++ ys) ≡ with_entry entry xs ++ ys) → is_lt r && list_all (λ x. is_lt (entry_cmp x entry)) xs ≡ false
        → by_order r (x ∷ with_entry entry (xs ++ ys)) (x ∷ (xs ++ ys)) (entry ∷ x ∷ (xs ++ ys)) ≡ by_order r (x ∷ with_entry entry xs) (x ∷ xs) (entry ∷ x ∷ xs) ++ ys
    at Less rest f = ap (λ (later : List IndexPlace). x ∷ later) (rest f)
    at Equal rest f = refl
    at Greater rest f = refl

-- entries taken out of joined lists
without_append : (entry : IndexPlace) (xs ys : List IndexPlace) → without_entry entry (xs ++ ys) ≡ without_entry entry xs ++ without_entry entry ys
without_append entry [] ys = refl
without_append entry (x ∷ xs) ys = at (not (is_eq (entry_cmp x entry))) (without_append entry xs ys)
  where
    at : (b : Bool) → without_entry entry (xs ++ ys) ≡ without_entry entry xs ++ without_entry entry ys
        → cond b (x ∷ without_entry entry (xs ++ ys)) (without_entry entry (xs ++ ys)) ≡ cond b (x ∷ without_entry entry xs) (without_entry entry xs) ++ without_entry entry ys
    at true rest = ap (λ (later : List IndexPlace). x ∷ later) rest
    at false rest = rest

without_lesser : (entry : IndexPlace) (xs : List IndexPlace) → list_all (λ x. is_lt (entry_cmp x entry)) xs ≡ true → without_entry entry xs ≡ xs
without_lesser entry xs e =
    filter_all (λ x. not (is_eq (entry_cmp x entry))) xs
    (each_map (λ x. is_lt (entry_cmp x entry) ≡ true) (λ x. not (is_eq (entry_cmp x entry)) ≡ true) (λ x lt. ap (λ r. not (is_eq r)) (less_is _ lt)) xs (each_from_all (λ x. is_lt (entry_cmp x entry)) xs e))

module _ (o : IsTotalOrder value_cmp) where
  rest_apart : (entry : IndexPlace) (xs ys : List IndexPlace) → IsAscending (xs ++ ys) → list_all (λ x. is_lt (entry_cmp x entry)) xs ≡ false → Each (λ later. not (is_eq (entry_cmp later entry)) ≡ true) ys
  rest_apart entry [] ys up e = absurd (true≢false e)
  rest_apart entry (x ∷ xs) ys up e = at (is_lt (entry_cmp x entry)) refl (rest_apart entry xs ys up.1) e
    where
      at : (b : Bool) → is_lt (entry_cmp x entry) ≡ b → (list_all (λ x. is_lt (entry_cmp x entry)) xs ≡ false → Each (λ later. not (is_eq (entry_cmp later entry)) ≡ true) ys) → b && list_all (λ x. is_lt (entry_cmp x entry)) xs ≡ false
          → Each (λ later. not (is_eq (entry_cmp later entry)) ≡ true) ys
      at true f rest g = rest g
      at false f rest g = apart o entry x ys f (each_right (λ later. entry_cmp x later ≡ Less) xs ys up.0)

module _ {X : Type 0} (f : X → List IndexPlace) where
  -- an entry belongs into the first part that doesn't lie before it, or into the last one
  pub with_entry_in_part : (entry : IndexPlace) (bs : List X) (k : ℕ) → k < length bs
      → ((i : ℕ) (d : X) → i < k → list_all (λ x. is_lt (entry_cmp x entry)) (f (get_or bs i d)) ≡ true)
      → ((d : X) → list_all (λ x. is_lt (entry_cmp x entry)) (f (get_or bs k d)) ≡ false) ⊎ (k + 1 ≡ length bs)
      → with_entry entry (joined f bs) ≡ joined_with f (with_entry entry) bs k
  with_entry_in_part entry [] k lt before here = absurd (omega arith)
  with_entry_in_part entry (b ∷ []) zero lt before here = ap (with_entry entry) (append_nil (f b)) ∙ sym (append_nil (with_entry entry (f b)))
  with_entry_in_part entry (b ∷ c ∷ bs) zero lt before here =
      ⊎_elim (λ e. with_entry_front entry (f b) (joined f (c ∷ bs)) (e b)) (λ e. absurd (omega arith)) here
  with_entry_in_part entry (b ∷ bs) (suc k) lt before here =
      with_entry_back entry (f b) (joined f bs) (before 0 b (omega arith))
      ∙ ap (λ (rest : List IndexPlace). f b ++ rest) (with_entry_in_part entry bs k (omega arith) (λ i d below. before (suc i) d (omega arith)) (⊎_elim (λ e. inl e) (λ e. inr (omega arith)) here))

  pub without_entry_past : (entry : IndexPlace) (bs : List X) → ((i : ℕ) (d : X) → i < length bs → list_all (λ x. is_lt (entry_cmp x entry)) (f (get_or bs i d)) ≡ true) → without_entry entry (joined f bs) ≡ joined f bs
  without_entry_past entry [] before = refl
  without_entry_past entry (b ∷ bs) before =
      without_append entry (f b) (joined f bs)
      ∙ ap (λ (front : List IndexPlace). front ++ without_entry entry (joined f bs)) (without_lesser entry (f b) (before 0 b (omega arith)))
      ∙ ap (λ (rest : List IndexPlace). f b ++ rest) (without_entry_past entry bs (λ i d below. before (suc i) d (omega arith)))

  -- an entry can only stand in the first part that doesn't lie before it
  pub without_entry_in_part : IsTotalOrder value_cmp → (entry : IndexPlace) (bs : List X) (k : ℕ) → IsAscending (joined f bs) → k < length bs → PartsPart f (λ x. is_lt (entry_cmp x entry)) bs k
      → without_entry entry (joined f bs) ≡ joined_with f (without_entry entry) bs k
  without_entry_in_part o entry [] k up lt parted = absurd (omega arith)
  without_entry_in_part o entry (b ∷ bs) zero up lt parted =
      without_append entry (f b) (joined f bs)
      ∙ ap (λ (rest : List IndexPlace). without_entry entry (f b) ++ rest) (filter_all (λ x. not (is_eq (entry_cmp x entry))) (joined f bs) (rest_apart o entry (f b) (joined f bs) up (parted.1 0 b (omega arith) (omega arith))))
  without_entry_in_part o entry (b ∷ bs) (suc k) up lt parted =
      without_append entry (f b) (joined f bs)
      ∙ ap (λ (front : List IndexPlace). front ++ without_entry entry (joined f bs)) (without_lesser entry (f b) (parted.0 0 b (omega arith) (omega arith)))
      ∙ ap (λ (rest : List IndexPlace). f b ++ rest) (without_entry_in_part o entry bs k (ascending_back (f b) (joined f bs) up) (omega arith) (part_tail f (λ x. is_lt (entry_cmp x entry)) b bs k parted))

  -- a part changed, and left out where it is empty then
  pub joined_set : (change : List IndexPlace → List IndexPlace) (bs : List X) (k : ℕ) (b d : X) → k < length bs → f b ≡ change (f (get_or bs k d)) → joined f (set bs k b) ≡ joined_with f change bs k
  joined_set change [] k b d lt e = absurd (omega arith)
  joined_set change (c ∷ bs) zero b d lt e = ap (λ (front : List IndexPlace). front ++ joined f bs) e
  joined_set change (c ∷ bs) (suc k) b d lt e = ap (λ (rest : List IndexPlace). f c ++ rest) (joined_set change bs k b d (omega arith) e)

  pub joined_left_out : (bs : List X) (k : ℕ) (b : X) → length (f b) ≡ 0 → joined f (remove (set bs k b) k) ≡ joined f (set bs k b)
  joined_left_out [] zero b e = refl
  joined_left_out [] (suc k) b e = refl
  joined_left_out (c ∷ bs) zero b e = at (f b) e
    where
      at : (xs : List IndexPlace) → length xs ≡ 0 → joined f bs ≡ xs ++ joined f bs
      at [] g = refl
      at (x ∷ xs) g = absurd (omega arith)
  joined_left_out (c ∷ bs) (suc k) b e = ap (λ (rest : List IndexPlace). f c ++ rest) (joined_left_out bs k b e)

  -- a part halved, of which the back stands behind it then
  pub joined_halved : (bs : List X) (k : ℕ) (space front back d : X) → k < length bs → IsHalved (f (get_or (insert bs (k + 1) space) k d)) (f front) (f back) → joined f (set (set (insert bs (k + 1) space) k front) (k + 1) back) ≡ joined f bs
  joined_halved [] k space front back d lt halved = absurd (omega arith)
  joined_halved (b ∷ bs) zero space front back d lt halved = sym (append_assoc (f front) (f back) (joined f bs)) ∙ ap (λ (whole : List IndexPlace). whole ++ joined f bs) (sym halved.same)
  joined_halved (b ∷ bs) (suc k) space front back d lt halved =
      let same : suc k + 1 ≡ suc (k + 1) = omega arith in
      rw same (ap (λ (rest : List IndexPlace). f b ++ rest) (joined_halved bs k space front back d (omega arith) (rw same at halved)))

  pub filled_halved : (bs : List X) (k : ℕ) (space front back : X) → k < length bs → IsFilled (f front) → IsFilled (f back) → AreFilled f bs → AreFilled f (set (set (insert bs (k + 1) space) k front) (k + 1) back)
  filled_halved [] k space front back lt first second filled = absurd (omega arith)
  filled_halved (b ∷ bs) zero space front back lt first second filled = (first, (second, filled.1))
  filled_halved (b ∷ bs) (suc k) space front back lt first second filled =
      let same : suc k + 1 ≡ suc (k + 1) = omega arith in
      rw same (filled.0, filled_halved bs k space front back (omega arith) first second filled.1)

  -- a part that stays whole, with no space behind it
  pub joined_whole : (bs : List X) (k : ℕ) (space part d : X) → k < length bs → f part ≡ f (get_or (insert bs (k + 1) space) k d) → joined f (remove (set (insert bs (k + 1) space) k part) (k + 1)) ≡ joined f bs
  joined_whole [] k space part d lt e = absurd (omega arith)
  joined_whole (b ∷ bs) zero space part d lt e = ap (λ (front : List IndexPlace). front ++ joined f bs) e
  joined_whole (b ∷ bs) (suc k) space part d lt e =
      let same : suc k + 1 ≡ suc (k + 1) = omega arith in
      rw same (ap (λ (rest : List IndexPlace). f b ++ rest) (joined_whole bs k space part d (omega arith) (rw same at e)))

  pub filled_whole : (bs : List X) (k : ℕ) (space part d : X) → k < length bs → f part ≡ f (get_or (insert bs (k + 1) space) k d) → AreFilled f bs → AreFilled f (remove (set (insert bs (k + 1) space) k part) (k + 1))
  filled_whole [] k space part d lt e filled = absurd (omega arith)
  filled_whole (b ∷ bs) zero space part d lt e filled = (subst IsFilled (sym e) filled.0, filled.1)
  filled_whole (b ∷ bs) (suc k) space part d lt e filled =
      let same : suc k + 1 ≡ suc (k + 1) = omega arith in
      rw same (filled.0, filled_whole bs k space part d (omega arith) (rw same at e) filled.1)

  -- the entries stay as they are, and no part is empty
  pub record IsDivided (bs divided : List X) : Type 0 where
    pub same : joined f divided ≡ joined f bs
    pub filled : AreFilled f bs → AreFilled f divided

  -- where space was made behind a part, which is halved or stays whole then
  module _ (k : ℕ) (bs grown : List X) (space part : X) (within : k < length bs) (grown_is : grown ≡ insert bs (k + 1) space) (part_is : part ≡ get_or grown k part) where
    the_part : f part ≡ f (get_or (insert bs (k + 1) space) k part)
    the_part = ap f (part_is ∙ ap (λ (xs : List X). get_or xs k part) grown_is)

    pub divided : (front back : X) → IsHalved (f part) (f front) (f back) → IsDivided bs (set (set grown k front) (k + 1) back)
    divided front back halved = rw grown_is (record {
      same = joined_halved bs k space front back part within (subst (λ (xs : List IndexPlace). IsHalved xs (f front) (f back)) the_part halved);
      filled = filled_halved bs k space front back within halved.front_filled halved.back_filled;
    })

    pub left_whole : (whole : X) → f whole ≡ f part → IsDivided bs (remove (set grown k whole) (k + 1))
    left_whole whole same = rw grown_is (record {
      same = joined_whole bs k space whole part within (same ∙ the_part);
      filled = filled_whole bs k space whole part within (same ∙ the_part);
    })

  -- parts cut into two lists
  joined_cut : (n : ℕ) (bs : List X) → joined f bs ≡ joined f (take n bs) ++ joined f (drop n bs)
  joined_cut zero bs = refl
  joined_cut (suc n) [] = refl
  joined_cut (suc n) (b ∷ bs) = ap (λ (rest : List IndexPlace). f b ++ rest) (joined_cut n bs) ∙ sym (append_assoc (f b) (joined f (take n bs)) (joined f (drop n bs)))

  each_take : (n : ℕ) (bs : List X) → AreFilled f bs → AreFilled f (take n bs)
  each_take zero bs filled = tt
  each_take (suc n) [] filled = tt
  each_take (suc n) (b ∷ bs) filled = (filled.0, each_take n bs filled.1)

  each_drop : (n : ℕ) (bs : List X) → AreFilled f bs → AreFilled f (drop n bs)
  each_drop zero bs filled = filled
  each_drop (suc n) [] filled = tt
  each_drop (suc n) (b ∷ bs) filled = each_drop n bs filled.1

  -- two lists of parts that are the two halves of one
  pub record IsCut (n : ℕ) (bs front back : List X) : Type 0 where
    pub some : 0 < n
    pub more : n < length bs
    pub front_is : front ≡ take n bs
    pub back_is : back ≡ drop n bs
    pub up : IsAscending (joined f bs)
    pub filled : AreFilled f bs

  module _ (n : ℕ) (bs front back : List X) (c : IsCut n bs front back) where
    pub cut_joined : joined f bs ≡ joined f front ++ joined f back
    cut_joined = rw (c.front_is, c.back_is) (joined_cut n bs)

    cut_up : IsAscending (joined f front ++ joined f back)
    cut_up = subst IsAscending cut_joined c.up

    pub cut_front : IsAscending (joined f front) × AreFilled f front
    cut_front = (ascending_front (joined f front) (joined f back) cut_up, subst (AreFilled f) (sym c.front_is) (each_take n bs c.filled))

    pub cut_back : IsAscending (joined f back) × AreFilled f back
    cut_back = (ascending_back (joined f front) (joined f back) cut_up, subst (AreFilled f) (sym c.back_is) (each_drop n bs c.filled))

    pub cut_halved : IsHalved (joined f bs) (joined f front) (joined f back)
    cut_halved = record {
      same = cut_joined;
      front_filled = filled_joined f front cut_front.1 (omega (arith, ap length c.front_is, length-take n bs, c.some, c.more));
      back_filled = filled_joined f back cut_back.1 (omega (arith, ap length c.back_is, length-drop n bs, c.more));
    }

  -- what holds of the joined parts after a change that may be refused
  pub kept_or_changed : {A E : Type 0} (P : List IndexPlace → Type 0) (r : Result A E) (old new : List X) (changed : List IndexPlace) → OnOk r (joined f new ≡ changed) → OnErr r (new ≡ old) → P (joined f old) → P changed → P (joined f new)
  kept_or_changed P (Ok a) old new changed ok err was is = subst P (sym ok) is
  kept_or_changed P (Err e) old new changed ok err was is = subst (λ (bs : List X). P (joined f bs)) (sym err) was

pub each_set : {X : Type 0} (P : X → Type 0) (xs : List X) (k : ℕ) (x : X) → Each P xs → P x → Each P (set xs k x)
each_set P [] k x each here = tt
each_set P (y ∷ ys) zero x each here = (here, each.1)
each_set P (y ∷ ys) (suc k) x each here = (each.0, each_set P ys k x each.1 here)

pub each_left_out : {X : Type 0} (P : X → Type 0) (xs : List X) (k : ℕ) (x : X) → Each P xs → Each P (remove (set xs k x) k)
each_left_out P [] zero x each = tt
each_left_out P [] (suc k) x each = tt
each_left_out P (y ∷ ys) zero x each = each.1
each_left_out P (y ∷ ys) (suc k) x each = (each.0, each_left_out P ys k x each.1)

pub filled_with : (entry : IndexPlace) (xs : List IndexPlace) → IsFilled (with_entry entry xs)
filled_with entry [] = omega arith
filled_with entry (x ∷ xs) = at (entry_cmp x entry)
  where
    at : (r : Ordering) → IsFilled (by_order r (x ∷ with_entry entry xs) (x ∷ xs) (entry ∷ x ∷ xs))
    at Less = omega arith
    at Equal = omega arith
    at Greater = omega arith

pub on_ok_same : {A E : Type 0} (r : Result A E) (x y z : List IndexPlace) → OnOk r (x ≡ y) → y ≡ z → OnOk r (x ≡ z)
on_ok_same (Ok a) x y z e f = e ∙ f
on_ok_same (Err err) x y z e f = tt
