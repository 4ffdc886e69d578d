-- What lies before a cut, and what the entries from it on are to a range.
use Rattle.std.proofs.Common.{◌≡◌, ◌≤◌, Bool, true, false, true≢false, not, ◌&&◌, ◌||◌, if◌then◌else◌, Option, None, Some, Ordering, Less, Equal, Greater, List, [], ◌∷◌, find, refl, sym, ap, ◌∙◌, arith}
use Rattle.std.specs.Ordering.{ordering_index, ordering_reverse, is_gt, is_lt, is_eq}
use Rattle.std.specs.Cmp.{IsTotalOrder}
use Rattle.std.proofs.lemmas.Cmp.{upto}
use Rattle.row_index.specs.declared.cut.Cut.{Cut}
use Rattle.row_index.specs.declared.cut.Cut.TheVariants.{Entry, Past, Range}
use Rattle.row_index.specs.declared.entries.IndexPlace.{IndexPlace}
use Rattle.row_index.specs.declared.entries.KeyRange.{KeyRange}
use Rattle.row_index.specs.Order.{value_cmp, entry_cmp, is_past}
use Rattle.row_index.specs.Ranges.{is_next, key_side, next_of}
use Rattle.row_index.specs.Cuts.{is_before}
use Rattle.row_index.specs.Entries.{IsAscending}
use Rattle.row_index.proofs.Orders.{entries_total, greater_is, less_is, then_first}
use Rattle.row_index.proofs.Sides.{key_side_up, within_is_side}
use Rattle.row_index.proofs.Lists.{each_map, find_none, IsDownward}

less_down : (r s : Ordering) → ordering_index r ≤ ordering_index s → is_lt s ≡ true → is_lt r ≡ true
less_down Less s up e = refl
less_down Equal Less up e = absurd (omega arith)
less_down Equal Equal up e = e
less_down Equal Greater up e = e
less_down Greater Less up e = absurd (omega arith)
less_down Greater Equal up e = e
less_down Greater Greater up e = e

greater_up : (r s : Ordering) → ordering_index r ≤ ordering_index s → is_lt r ≡ false → is_eq r ≡ false → is_eq s ≡ false
greater_up Less s up e f = absurd (true≢false e)
greater_up Equal s up e f = absurd (true≢false f)
greater_up Greater Less up e f = refl
greater_up Greater Equal up e f = absurd (omega arith)
greater_up Greater Greater up e f = refl

not_true : (b : Bool) → not b ≡ true → b ≡ false
not_true true e = sym e
not_true false e = refl

neither : (a b : Bool) → a || b ≡ false → (a ≡ false) × (b ≡ false)
neither true b e = absurd (true≢false e)
neither false b e = (refl, e)

not_false : (b : Bool) → not b ≡ false → b ≡ true
not_false true e = refl
not_false false e = sym e

abbrev lies_early : KeyRange → Option IndexPlace → IndexPlace → Bool
lies_early range last entry = is_lt (key_side range entry.key) || not (is_past last entry)

find_same : (p q : IndexPlace → Bool) → ((x : IndexPlace) → p x ≡ q x) → (xs : List IndexPlace) → find p xs ≡ find q xs
find_same p q same [] = refl
find_same p q same (x ∷ xs) = rw (same x, find_same p q same xs) refl

or_first : (a b : Bool) → (a ≡ true → b ≡ true) → a || b ≡ b
or_first true b f = sym (f refl)
or_first false b f = refl

or_second : (a b : Bool) → (b ≡ true → a ≡ true) → a || b ≡ a
or_second true b f = refl
or_second false true f = absurd (true≢false (sym (f refl)))
or_second false false f = refl

-- the last entry, if there was one, lies before the range
abbrev pub IsEarly : KeyRange → Option IndexPlace → Type 0
IsEarly range None = Unit {0}
IsEarly range (Some last) = is_lt (key_side range last.key) ≡ true

module _ (o : IsTotalOrder value_cmp) where
  past_down : (last : Option IndexPlace) (x y : IndexPlace) → entry_cmp x y ≡ Less → not (is_past last y) ≡ true → not (is_past last x) ≡ true
  past_down None x y lt e = e
  past_down (Some last) x y lt e = ap not (upto (entries_total o) x y last (ap is_gt lt) (not_true _ e))

  pub side_up : (range : KeyRange) (x y : IndexPlace) → entry_cmp x y ≡ Less → ordering_index (key_side range x.key) ≤ ordering_index (key_side range y.key)
  side_up range x y lt = key_side_up o range x.key y.key (then_first _ _ (ap is_gt lt))

  pub less_is_down : (sought : IndexPlace) → IsDownward (λ x. is_lt (entry_cmp x sought))
  less_is_down sought x y lt e = ap is_lt ((entries_total o).trans x y sought lt (less_is _ e))

  pub before_down : (cut : Cut) → IsDownward (is_before cut)
  before_down (Entry sought) x y lt e = less_is_down sought.now x y lt e
  before_down (Past sought) x y lt e = past_down (Some sought.now) x y lt e
  before_down (Range range) x y lt e = less_down _ _ (side_up range.now x y lt) e

  next_found : (range : KeyRange) (last : Option IndexPlace) (xs : List IndexPlace) → IsAscending xs → next_of range (find (λ entry. not (lies_early range last entry)) xs) ≡ find (is_next range last) xs
  next_found range last [] up = refl
  next_found range last (x ∷ xs) up = rw (within_is_side range x.key) (at (lies_early range last x) refl (next_found range last xs up.1))
    where
      early : (r : Ordering) (past : Bool) → is_lt r || not past ≡ true → is_eq r && past ≡ false
      early Less past e = refl
      early Equal true e = absurd (true≢false (sym e))
      early Equal false e = refl
      early Greater past e = refl

      beyond : is_lt (key_side range x.key) ≡ false → is_eq (key_side range x.key) ≡ false → find (is_next range last) xs ≡ None
      beyond e f =
          find_none (is_next range last) xs
          (each_map (λ later. entry_cmp x later ≡ Less) (λ later. is_next range last later ≡ false) (λ later lt. rw (within_is_side range later.key) (rw (greater_up (key_side range x.key) (key_side range later.key) (side_up range x later lt) e f) refl)) xs up.0)

      late : is_lt (key_side range x.key) ≡ false → (same : Bool) → is_eq (key_side range x.key) ≡ same → (if same then Some x else None) ≡ (if same && true then Some x else find (is_next range last) xs)
      late e true f = refl
      late e false f = sym (beyond e f)

      at : (b : Bool) → lies_early range last x ≡ b → next_of range (find (λ entry. not (lies_early range last entry)) xs) ≡ find (is_next range last) xs → next_of range (if not b then Some x else find (λ entry. not (lies_early range last entry)) xs) ≡ (if is_eq (key_side range x.key) && is_past last x then Some x else find (is_next range last) xs)
      at true e rest = rw (early (key_side range x.key) (is_past last x) e) rest
      at false e rest =
          let parts = neither (is_lt (key_side range x.key)) (not (is_past last x)) e in
          rw (not_false (is_past last x) parts.1) (late parts.0 (is_eq (key_side range x.key)) refl)

  -- behind an entry that isn't before the range, nor is any after it
  pub next_past : (range : KeyRange) (last : IndexPlace) → is_lt (key_side range last.key) ≡ false → (xs : List IndexPlace) → IsAscending xs → next_of range (find (λ x. not (not (is_gt (entry_cmp x last)))) xs) ≡ find (is_next range (Some last)) xs
  next_past range last within xs up =
      ap (next_of range) (find_same (λ x. not (not (is_gt (entry_cmp x last)))) (λ x. not (lies_early range (Some last) x)) (λ x. ap not (sym (or_first (is_lt (key_side range x.key)) (not (is_gt (entry_cmp x last))) (early x)))) xs)
      ∙ next_found range (Some last) xs up
    where
      later : (x : IndexPlace) → is_gt (entry_cmp x last) ≡ true → is_gt (entry_cmp last x) ≡ false
      later x g = ap is_gt ((entries_total o).antisymm last x ∙ ap ordering_reverse (greater_is _ g))

      early : (x : IndexPlace) → is_lt (key_side range x.key) ≡ true → not (is_gt (entry_cmp x last)) ≡ true
      early x e = at (is_gt (entry_cmp x last)) refl
        where
          at : (b : Bool) → is_gt (entry_cmp x last) ≡ b → not b ≡ true
          at true g = absurd (true≢false (sym (less_down _ _ (key_side_up o range last.key x.key (then_first _ _ (later x g))) e) ∙ within))
          at false g = refl

  -- an entry before the range tells nothing of where it begins
  pub next_first : (range : KeyRange) (last : Option IndexPlace) → IsEarly range last → (xs : List IndexPlace) → IsAscending xs → next_of range (find (λ x. not (is_lt (key_side range x.key))) xs) ≡ find (is_next range last) xs
  next_first range last before xs up =
      ap (next_of range) (find_same (λ x. not (is_lt (key_side range x.key))) (λ x. not (lies_early range last x)) (λ x. ap not (sym (or_second (is_lt (key_side range x.key)) (not (is_past last x)) (early last before x)))) xs)
      ∙ next_found range last xs up
    where
      early : (last : Option IndexPlace) → IsEarly range last → (x : IndexPlace) → not (is_past last x) ≡ true → is_lt (key_side range x.key) ≡ true
      early None before x e = absurd (true≢false (sym e))
      early (Some last) before x e = less_down _ _ (key_side_up o range x.key last.key (then_first _ _ (not_true _ e))) before
