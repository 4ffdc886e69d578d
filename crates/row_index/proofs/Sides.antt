-- The keys of a range stand side by side in the order of keys.
use Rattle.std.proofs.Common.{◌≡◌, ◌≤◌, Bool, true, false, true≢false, not, ◌&&◌, ◌||◌, if◌then◌else◌, Option, None, Some, Ordering, Less, Equal, Greater, List, [], ◌∷◌, length, take, refl, sym, ap, ◌∙◌, arith}
use Rattle.std.specs.Ordering.{ordering_index, ordering_then, is_gt, is_eq}
use Rattle.std.specs.List.{slice_get}
use Rattle.std.specs.Cmp.{IsTotalOrder}
use Rattle.q_value.specs.declared.value.Value.{Value}
use Rattle.q_value.specs.declared.value.Value.TheVariants as value
use Rattle.row_index.specs.declared.entries.Edge.{Edge}
use Rattle.row_index.specs.declared.entries.KeyRange.{KeyRange}
use Rattle.row_index.specs.Order.{value_cmp, keys_cmp}
use Rattle.row_index.specs.Ranges.{begins_with, is_from, is_up_to, is_above, is_below, is_null, has_edge, lies_within, is_within, value_side, edged_side, next_side, key_side}
use Rattle.row_index.proofs.Orders.{then_up, then_assoc, then_first, rank_up, tied_both}

from_up : (included : Bool) (r s : Ordering) → ordering_index r ≤ ordering_index s → is_from included r ≡ true → is_from included s ≡ true
from_up included Less s up e = absurd (true≢false (sym e))
from_up included Equal Less up e = absurd (omega arith)
from_up included Equal Equal up e = e
from_up included Equal Greater up e = refl
from_up included Greater Less up e = absurd (omega arith)
from_up included Greater Equal up e = absurd (omega arith)
from_up included Greater Greater up e = refl

up_to_down : (included : Bool) (r s : Ordering) → ordering_index r ≤ ordering_index s → is_up_to included s ≡ true → is_up_to included r ≡ true
up_to_down included Less s up e = refl
up_to_down included Equal Less up e = absurd (omega arith)
up_to_down included Equal Equal up e = e
up_to_down included Equal Greater up e = absurd (true≢false (sym e))
up_to_down included Greater s up e = absurd (only_greater s up e)
  where
    only_greater : (s : Ordering) → 2 ≤ ordering_index s → is_up_to included s ≡ true → ⊥
    only_greater Less up e = omega arith
    only_greater Equal up e = omega arith
    only_greater Greater up e = true≢false (sym e)

-- a value's side by three tests
abbrev side_by : Bool → Bool → Bool → Ordering
side_by above null below = if not above then Less else (if null || not below then Greater else Equal)

side_by_up : (a a2 n n2 b b2 : Bool) → (a ≡ true → a2 ≡ true) → (n ≡ true → n2 ≡ true) → (b2 ≡ true → b ≡ true) → ordering_index (side_by a n b) ≤ ordering_index (side_by a2 n2 b2)
side_by_up false a2 n n2 b b2 f g h = omega arith
side_by_up true false n n2 b b2 f g h = absurd (true≢false (sym (f refl)))
side_by_up true true true false b b2 f g h = absurd (true≢false (sym (g refl)))
side_by_up true true true true b b2 f g h = omega arith
side_by_up true true false true b b2 f g h = inner b
  where
    inner : (b : Bool) → ordering_index (side_by true false b) ≤ 2
    inner true = omega arith
    inner false = omega arith
side_by_up true true false false true true f g h = omega arith
side_by_up true true false false true false f g h = omega arith
side_by_up true true false false false true f g h = absurd (true≢false (sym (h refl)))
side_by_up true true false false false false f g h = omega arith

-- the side by an order's answers: a later key is on no earlier side
module _ (o : IsTotalOrder value_cmp) where
  above_up : (low : Option Edge) (v w : Value) → is_gt (value_cmp v w) ≡ false → is_above low v ≡ true → is_above low w ≡ true
  above_up None v w up e = refl
  above_up (Some edge) v w up e = from_up edge.included (value_cmp v edge.value) (value_cmp w edge.value) (rank_up o v w edge.value up) e

  below_down : (high : Option Edge) (v w : Value) → is_gt (value_cmp v w) ≡ false → is_below high w ≡ true → is_below high v ≡ true
  below_down None v w up e = refl
  below_down (Some edge) v w up e = up_to_down edge.included (value_cmp v edge.value) (value_cmp w edge.value) (rank_up o v w edge.value up) e

  null_up : (v w : Value) → is_gt (value_cmp v w) ≡ false → is_null v ≡ true → is_null w ≡ true
  null_up value.Null value.Null up e = refl
  null_up value.Null (value.Int2 n) up e = absurd (true≢false up)
  null_up value.Null (value.Int4 n) up e = absurd (true≢false up)
  null_up value.Null (value.Int8 n) up e = absurd (true≢false up)
  null_up value.Null (value.Text n) up e = absurd (true≢false up)
  null_up value.Null (value.Bool n) up e = absurd (true≢false up)
  null_up (value.Int2 n) w up e = absurd (true≢false (sym e))
  null_up (value.Int4 n) w up e = absurd (true≢false (sym e))
  null_up (value.Int8 n) w up e = absurd (true≢false (sym e))
  null_up (value.Text n) w up e = absurd (true≢false (sym e))
  null_up (value.Bool n) w up e = absurd (true≢false (sym e))

  value_side_up : (range : KeyRange) (v w : Value) → is_gt (value_cmp v w) ≡ false → ordering_index (value_side range v) ≤ ordering_index (value_side range w)
  value_side_up range v w up = side_by_up (is_above range.low v) (is_above range.low w) (is_null v) (is_null w) (is_below range.high v) (is_below range.high w) (above_up range.low v w up) (null_up v w up) (below_down range.high v w up)

  next_side_first : (range : KeyRange) (w : Value) → ordering_index (next_side range None) ≤ ordering_index (next_side range (Some w))
  next_side_first range w = at (has_edge range)
    where
      at : (edges : Bool) → ordering_index (if edges then Less else Equal) ≤ ordering_index (if edges then value_side range w else Equal)
      at true = omega arith
      at false = omega arith

  next_side_up : (range : KeyRange) (v w : Value) → is_gt (value_cmp v w) ≡ false → ordering_index (next_side range (Some v)) ≤ ordering_index (next_side range (Some w))
  next_side_up range v w up = at (has_edge range)
    where
      at : (edges : Bool) → ordering_index (if edges then value_side range v else Equal) ≤ ordering_index (if edges then value_side range w else Equal)
      at true = value_side_up range v w up
      at false = omega arith

  abbrev side_from : KeyRange → List Value → List Value → Ordering
  side_from range equal key = ordering_then (keys_cmp (take (length equal) key) equal) (next_side range (slice_get key (length equal)))

  side_from_up : (range : KeyRange) (equal a b : List Value) → is_gt (keys_cmp a b) ≡ false → ordering_index (side_from range equal a) ≤ ordering_index (side_from range equal b)
  side_from_up range [] [] [] up = omega arith
  side_from_up range [] [] (y ∷ ys) up = next_side_first range y
  side_from_up range [] (x ∷ xs) [] up = absurd (true≢false up)
  side_from_up range [] (x ∷ xs) (y ∷ ys) up = next_side_up range x y (then_first _ _ up)
  side_from_up range (v ∷ vs) [] b up = omega arith
  side_from_up range (v ∷ vs) (x ∷ xs) [] up = absurd (true≢false up)
  side_from_up range (v ∷ vs) (x ∷ xs) (y ∷ ys) up =
      rw (then_assoc (value_cmp x v) (keys_cmp (take (length vs) xs) vs) (next_side range (slice_get xs (length vs))))
      (rw (then_assoc (value_cmp y v) (keys_cmp (take (length vs) ys) vs) (next_side range (slice_get ys (length vs))))
      (then_up (value_cmp x v) (value_cmp y v) (side_from range vs xs) (side_from range vs ys)
      (rank_up o x y v (then_first _ _ up))
      (λ e f. side_from_up range vs xs ys (rw (tied_both o x y v e f) at up))))

  pub key_side_up : (range : KeyRange) (a b : List Value) → is_gt (keys_cmp a b) ≡ false → ordering_index (key_side range a) ≤ ordering_index (key_side range b)
  key_side_up range a b up = side_from_up range range.equal a b up

-- the keys on the range's side are those within
pub within_is_side : (range : KeyRange) (key : List Value) → is_within range key ≡ is_eq (key_side range key)
within_is_side range key =
    ap (λ (inner : Bool). begins_with range.equal key && inner) (next_within (has_edge range) (slice_get key (length range.equal)))
    ∙ then_eq (keys_cmp (take (length range.equal) key) range.equal) (next_side range (slice_get key (length range.equal)))
  where
    then_eq : (r s : Ordering) → (is_eq r && is_eq s) ≡ is_eq (ordering_then r s)
    then_eq Less s = refl
    then_eq Equal s = refl
    then_eq Greater s = refl

    tests : (a n b : Bool) → (not n && (a && b)) ≡ is_eq (side_by a n b)
    tests true true b = refl
    tests false true b = refl
    tests true false true = refl
    tests true false false = refl
    tests false false b = refl

    next_within : (edges : Bool) (next : Option Value) → (not edges || lies_within range next) ≡ is_eq (if edges then edged_side range next else Equal)
    next_within false next = refl
    next_within true None = refl
    next_within true (Some v) = tests (is_above range.low v) (is_null v) (is_below range.high v)
