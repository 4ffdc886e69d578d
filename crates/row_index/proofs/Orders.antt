-- The orders of keys and entries are total, and what follows.
use Rattle.std.proofs.Common.{◌≡◌, ℕ, suc, ◌≤◌, true, false, true≢false, Ordering, Less, Equal, Greater, List, [], ◌∷◌, length, drop, refl, sym, ap, ◌∙◌, arith}
use Rattle.std.specs.Ordering.{nat_cmp, ordering_index, ordering_reverse, ordering_then, is_gt, is_lt}
use Rattle.std.specs.Cmp.{IsTotalOrder}
use Rattle.std.proofs.lemmas.Cmp.{nat_cmp_total, lists_total, on_total, then_total, alike_right}
use Rattle.std.proofs.lemmas.Bool.Decides.{nat_tests}
use Rattle.q_value.specs.declared.value.Value.{Value}
use Rattle.row_index.specs.declared.entries.IndexPlace.{IndexPlace}
use Rattle.row_index.specs.Order.{value_cmp, keys_cmp, entry_cmp}

pub keys_total : IsTotalOrder value_cmp → IsTotalOrder keys_cmp
keys_total o = lists_total o

pub entries_total : IsTotalOrder value_cmp → IsTotalOrder entry_cmp
entries_total o = then_total (on_total (λ (e : IndexPlace). e.key) (lists_total o)) (on_total (λ (e : IndexPlace). e.slot.0) nat_cmp_total)

-- past the end of the shorter key the lengths decide
pub keys_at_end : (left right : List Value) → length left ≤ length right → keys_cmp (drop (length left) left) (drop (length left) right) ≡ nat_cmp (length left) (length right)
keys_at_end [] [] le = refl
keys_at_end [] (y ∷ ys) le = grind (arith, nat_tests)
keys_at_end (x ∷ xs) [] le = absurd (omega arith)
keys_at_end (x ∷ xs) (y ∷ ys) le = keys_at_end xs ys (omega arith) ∙ same (length xs) (length ys)
  where
    same : (m n : ℕ) → nat_cmp m n ≡ nat_cmp (suc m) (suc n)
    same m n = grind (arith, nat_tests)

-- tests of an answer
pub less_is : (r : Ordering) → is_lt r ≡ true → r ≡ Less
less_is Less e = refl
less_is Equal e = absurd (true≢false (sym e))
less_is Greater e = absurd (true≢false (sym e))

pub greater_is : (r : Ordering) → is_gt r ≡ true → r ≡ Greater
greater_is Less e = absurd (true≢false (sym e))
greater_is Equal e = absurd (true≢false (sym e))
greater_is Greater e = refl

pub greatest_rank : (r : Ordering) → ordering_index r ≤ 2
greatest_rank Less = omega arith
greatest_rank Equal = omega arith
greatest_rank Greater = omega arith

-- of two answers the first is no later
pub then_up : (r s p q : Ordering) → ordering_index r ≤ ordering_index s → (r ≡ Equal → s ≡ Equal → ordering_index p ≤ ordering_index q) → ordering_index (ordering_then r p) ≤ ordering_index (ordering_then s q)
then_up Less s p q up tail = omega arith
then_up Equal Less p q up tail = absurd (omega arith)
then_up Equal Equal p q up tail = tail refl refl
then_up Equal Greater p q up tail = greatest_rank p
then_up Greater Less p q up tail = absurd (omega arith)
then_up Greater Equal p q up tail = absurd (omega arith)
then_up Greater Greater p q up tail = omega arith

pub then_assoc : (r s t : Ordering) → ordering_then (ordering_then r s) t ≡ ordering_then r (ordering_then s t)
then_assoc Less s t = refl
then_assoc Equal s t = refl
then_assoc Greater s t = refl

-- the first part of an order that isn't greater isn't greater
pub then_first : (r s : Ordering) → is_gt (ordering_then r s) ≡ false → is_gt r ≡ false
then_first Less s e = refl
then_first Equal s e = refl
then_first Greater s e = e

module _ {K : Type 0} {R : K → K → Ordering} (o : IsTotalOrder R) where
  -- a greater element is no earlier to a third one
  pub rank_up : (x y z : K) → is_gt (R x y) ≡ false → ordering_index (R x z) ≤ ordering_index (R y z)
  rank_up x y z up = at (R x y) refl up
    where
      below : (r : Ordering) → R y z ≡ r → R x y ≡ Less → ordering_index (R x z) ≤ ordering_index r
      below Less e lt = omega (arith, ap ordering_index (o.trans x y z lt e))
      below Equal e lt = omega (arith, ap ordering_index (sym (alike_right o y z x e) ∙ lt))
      below Greater e lt = greatest_rank (R x z)

      at : (r : Ordering) → R x y ≡ r → is_gt r ≡ false → ordering_index (R x z) ≤ ordering_index (R y z)
      at Less e h = below (R y z) refl e
      at Equal e h = omega (arith, ap ordering_index (o.congr x y z e))
      at Greater e h = absurd (true≢false h)

  -- two elements that tie with a third tie
  pub tied_both : (x y z : K) → R x z ≡ Equal → R y z ≡ Equal → R x y ≡ Equal
  tied_both x y z e f = o.congr x z y e ∙ (o.antisymm z y ∙ ap ordering_reverse f)
