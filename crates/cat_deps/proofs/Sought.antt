-- What a search in ascending ids finds, and how many there are after one more.
use Rattle.std.proofs.Common.{◌≡◌, ◌↔◌, ℕ, zero, suc, ◌+◌, ◌<◌, ◌≤◌, ◌==◌, Bool, true, false, nat_lt, List, [], ◌∷◌, length, get_or, Contains, Ordering, Less, Equal, Greater, Result, Ok, Err, is_ok, IsTrue, if◌then◌else◌, refl, sym, ap, ◌∙◌, nat_cmp, arith}
use Rattle.std.specs.Ordering.{ordering_index}
use Rattle.std.specs.List.Sorted.{IsSearchInRange, IsBinarySearchResult, IsNonDecreasingBy}
use Rattle.std.proofs.lemmas.Bool.Decides.{nat_tests}
use Rattle.std.proofs.lemmas.Cmp.{alike_right, ranked, nat_cmp_total}
use Rattle.std.specs.Cmp.{nat_cmp_is}
use Rattle.std.proofs.lemmas.List.Elements.{Contains-from_at}
use Rattle.std.proofs.lemmas.List.Sorted.{IsNonDecreasingBy-from_all_adjacent}
use Rattle.q_base.specs.declared.ids.ObjId.{ObjId}
use Rattle.q_base.specs.IdLists.{IsAscending, with_id}

next_below : (ids : List ObjId) → IsAscending ids → (k : ℕ) (d : ObjId) → k + 1 < length ids → (get_or ids k d).0 < (get_or ids (k + 1) d).0
next_below [] up k d lt = absurd (omega arith)
next_below (id ∷ []) up k d lt = absurd (omega arith)
next_below (id ∷ next ∷ ids) up zero d lt = up.0
next_below (id ∷ next ∷ ids) up (suc k) d lt = let same : suc (k + 1) ≡ suc k + 1 = omega arith in rw (← same) (next_below (next ∷ ids) up.1 k d (omega arith))

higher : (a b k : ℕ) (r : Ordering) → nat_cmp b k ≡ r → nat_cmp a b ≡ Less → ordering_index (nat_cmp a k) ≤ ordering_index r
higher a b k Less e lt = omega (arith, ap ordering_index (nat_cmp_total.trans a b k lt e))
higher a b k Equal e lt = omega (arith, ap ordering_index (sym (alike_right nat_cmp_total b k a e) ∙ lt))
higher a b k Greater e lt = at_most (nat_cmp a k)
  where
    at_most : (s : Ordering) → ordering_index s ≤ 2
    at_most Less = omega arith
    at_most Equal = omega arith
    at_most Greater = omega arith

rising : (ids : List ObjId) (id : ObjId) → IsAscending ids → IsNonDecreasingBy (λ other. ordering_index (nat_cmp other.0 id.0)) ids
rising ids id up = IsNonDecreasingBy-from_all_adjacent (λ other. ordering_index (nat_cmp other.0 id.0)) ids (λ i d lt. higher _ _ id.0 _ refl (sym (nat_cmp_is _ _ Less (next_below ids up i d lt))))

same_order : (n : ℕ) (r : Ordering) → nat_cmp n n ≡ r → r ≡ Equal
same_order n r e = sym e ∙ sym (nat_cmp_is n n Equal refl)

-- what a search in ascending ids answers
pub among : (id : ObjId) (ids : List ObjId) (r : Result ℕ ℕ) (b : Bool) → b ≡ is_ok r → IsAscending ids → IsSearchInRange r (length ids) → IsBinarySearchResult (λ other. nat_cmp other.0 id.0) ids r → IsTrue b ↔ Contains ids id
among id ids (Ok i) b e up within found = (λ is_so. there, λ listed. rw e refl)
  where
    same : {other : ObjId} → nat_cmp other.0 id.0 ≡ Equal → other ≡ id
    same {other} equal = ap (λ n. record { 0 = n }) (ranked other.0 id.0 Equal (sym equal))

    there : Contains ids id
    there = Contains-from_at ids id (i, within, λ d. same (found d))
among id ids (Err i) b e up within found = (λ is_so. absurd (cc (sym e ∙ is_so)), λ listed. absurd (never listed))
  where
    never : Contains ids id → ⊥
    never (k, inside, same) = side (nat_lt k i) refl
      where
        itself : get_or ids k id ≡ id
        itself = same

        side : (before : Bool) → nat_lt k i ≡ before → ⊥
        side true lt = cc (sym (same_order id.0 _ refl) ∙ ap (λ (other : ObjId). nat_cmp other.0 id.0) (sym itself) ∙ (found (rising ids id up)).0 k id (omega arith) (grind (arith, nat_tests)))
        side false ge = cc (sym (same_order id.0 _ refl) ∙ ap (λ (other : ObjId). nat_cmp other.0 id.0) (sym itself) ∙ (found (rising ids id up)).1 k id (grind (arith, nat_tests)) inside)

-- one more makes the list no shorter, and leaves it as it was where it stays as long
pub with_id_longer : (id : ObjId) (ids : List ObjId) → length ids ≤ length (with_id id ids)
with_id_longer id [] = omega arith
with_id_longer id (first ∷ ids) = placed (with_id_longer id ids) (nat_lt first.0 id.0) (first.0 == id.0)
  where
    placed : length ids ≤ length (with_id id ids) → (a b : Bool) → length (first ∷ ids) ≤ length (if a then first ∷ with_id id ids else (if b then first ∷ ids else id ∷ first ∷ ids))
    placed later true b = omega (arith, later)
    placed later false true = omega arith
    placed later false false = omega arith

pub with_id_same : (id : ObjId) (ids : List ObjId) → length (with_id id ids) ≡ length ids → with_id id ids ≡ ids
with_id_same id [] same = absurd (omega (arith, same))
with_id_same id (first ∷ ids) same = placed (with_id_same id ids) (nat_lt first.0 id.0) (first.0 == id.0) same
  where
    placed : (length (with_id id ids) ≡ length ids → with_id id ids ≡ ids) → (a b : Bool) → length (if a then first ∷ with_id id ids else (if b then first ∷ ids else id ∷ first ∷ ids)) ≡ length (first ∷ ids) → (if a then first ∷ with_id id ids else (if b then first ∷ ids else id ∷ first ∷ ids)) ≡ first ∷ ids
    placed later true b same = ap (λ (more : List ObjId). first ∷ more) (later (omega (arith, same)))
    placed later false true same = refl
    placed later false false same = absurd (omega (arith, same))
