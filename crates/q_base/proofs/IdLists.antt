-- How an id comes to its place in an ascending list.
use Rattle.std.proofs.Common.{◌≡◌, ℕ, zero, suc, ◌+◌, ◌<◌, ◌≤◌, ◌==◌, Bool, true, false, nat_lt, List, [], ◌∷◌, length, get_or, if◌then◌else◌, Less, Result, Ok, Err, MatchResult, insert, nat_cmp, sym, ap, refl, inl, inr, ⊎_elim, ◌∙◌, Contains, ◌⊎◌, arith}
use Rattle.std.specs.List.Sorted.{IsSearchInRange, IsBinarySearchResult}
use Rattle.std.proofs.lemmas.Cmp.{ranked, nat_cmp_total}
use Rattle.std.proofs.lemmas.Bool.Decides.{nat_tests}
use Rattle.std.specs.Cmp.{nat_cmp_is}
use Rattle.q_base.specs.declared.ids.ObjId.{ObjId}
use Rattle.q_base.specs.IdLists.{HasOneMore, IsAscending, with_id}
use Rattle.q_base.proofs.Searches.{ends_at}

next_below : (ids : List ObjId) → IsAscending ids → (k : ℕ) (d : ObjId) → k + 1 < length ids → (get_or ids k d).0 < (get_or ids (k + 1) d).0
next_below [] up k d lt = absurd (omega arith)
next_below (id ∷ []) up k d lt = absurd (omega arith)
next_below (id ∷ next ∷ ids) up zero d lt = up.0
next_below (id ∷ next ∷ ids) up (suc k) d lt = let same : suc (k + 1) ≡ suc k + 1 = omega arith in rw (← same) (next_below (next ∷ ids) up.1 k d (omega arith))

-- an id that stands after lesser ones is there already
with_id_there : (id : ObjId) (ids : List ObjId) (i : ℕ) → i < length ids → ((d : ObjId) → (get_or ids i d).0 ≡ id.0) → ((k : ℕ) (d : ObjId) → k < i → (get_or ids k d).0 < id.0) → with_id id ids ≡ ids
with_id_there id [] i within same less = absurd (omega arith)
with_id_there id (first ∷ ids) zero within same less = grind (arith, nat_tests, same first)
with_id_there id (first ∷ ids) (suc i) within same less = grind (arith, nat_tests, less 0 first (omega arith), with_id_there id ids i (omega arith) same (λ k d lt. less (suc k) d (omega arith)))

-- between the lesser and the greater ones it is inserted
with_id_inserted : (id : ObjId) (ids : List ObjId) (i : ℕ) → i ≤ length ids → ((k : ℕ) (d : ObjId) → k < i → (get_or ids k d).0 < id.0) → ((k : ℕ) (d : ObjId) → i ≤ k → k < length ids → id.0 < (get_or ids k d).0) → with_id id ids ≡ insert ids i id
with_id_inserted id [] zero within less greater = refl
with_id_inserted id [] (suc i) within less greater = refl
with_id_inserted id (first ∷ ids) zero within less greater = grind (arith, nat_tests, greater 0 first (omega arith) (omega arith))
with_id_inserted id (first ∷ ids) (suc i) within less greater = grind (arith, nat_tests, less 0 first (omega arith), with_id_inserted id ids i (omega arith) (λ k d lt. less (suc k) d (omega arith)) (λ k d from lt. greater (suc k) d (omega arith) (omega arith)))

-- what a binary search answers is the place at which the id belongs
pub with_id_searched : (id : ObjId) (ids : List ObjId) (r : Result ℕ ℕ) → IsAscending ids → IsSearchInRange r (length ids) → IsBinarySearchResult (λ other. nat_cmp other.0 id.0) ids r → MatchResult r (λ i. with_id id ids ≡ ids) (λ i. with_id id ids ≡ insert ids i id)
with_id_searched id ids (Ok i) up within found =
    let ends = ends_at nat_cmp_total (λ (x : ObjId). x.0) ids id.0 (Ok i) (λ k d lt. sym (nat_cmp_is _ _ Less (next_below ids up k d lt))) within found in
    with_id_there id ids i within (λ d. ranked _ id.0 _ (sym (ends.1 d))) (λ k d lt. ranked _ id.0 _ (sym (ends.2.less k d lt)))
with_id_searched id ids (Err i) up within found =
    let ends = ends_at nat_cmp_total (λ (x : ObjId). x.0) ids id.0 (Err i) (λ k d lt. sym (nat_cmp_is _ _ Less (next_below ids up k d lt))) within found in
    with_id_inserted id ids i within (λ k d lt. ranked _ id.0 _ (sym (ends.1.less k d lt))) (λ k d from lt. ranked _ id.0 _ (sym (ends.1.greater k d from lt)))

-- the list stays in order
ascending_after : (before id : ObjId) (ids : List ObjId) → before.0 < id.0 → IsAscending (before ∷ ids) → IsAscending (before ∷ with_id id ids)
ascending_after before id [] lt up = (lt, tt)
ascending_after before id (first ∷ ids) lt up = placed (λ below. ascending_after first id ids below up.1) (nat_lt first.0 id.0) (first.0 == id.0) refl refl
  where
    placed : (first.0 < id.0 → IsAscending (first ∷ with_id id ids)) → (a b : Bool) → nat_lt first.0 id.0 ≡ a → (first.0 == id.0) ≡ b → IsAscending (before ∷ (if a then first ∷ with_id id ids else (if b then first ∷ ids else id ∷ first ∷ ids)))
    placed later true b e f = (up.0, later (grind (arith, nat_tests)))
    placed later false true e f = up
    placed later false false e f = (lt, (grind (arith, nat_tests), up.1))

pub ascending_with_id : (id : ObjId) (ids : List ObjId) → IsAscending ids → IsAscending (with_id id ids)
ascending_with_id id [] up = tt
ascending_with_id id (first ∷ ids) up = placed (nat_lt first.0 id.0) (first.0 == id.0) refl refl
  where
    placed : (a b : Bool) → nat_lt first.0 id.0 ≡ a → (first.0 == id.0) ≡ b → IsAscending (if a then first ∷ with_id id ids else (if b then first ∷ ids else id ∷ first ∷ ids))
    placed true b e f = ascending_after first id ids (grind (arith, nat_tests)) up
    placed false true e f = up
    placed false false e f = (grind (arith, nat_tests), up)

-- what the list has after it
abbrev id_of : ℕ → ObjId
id_of n = record { 0 = n }

cases_cons : (first : ObjId) (ids : List ObjId) (other : ObjId) → Contains (first ∷ ids) other → (other ≡ first) ⊎ Contains ids other
cases_cons first ids other (zero, within, same) = inl (sym same)
cases_cons first ids other (suc k, within, same) = inr (k, omega arith, same)

here : (first : ObjId) (ids : List ObjId) (other : ObjId) → other ≡ first → Contains (first ∷ ids) other
here first ids other same = (0, omega arith, sym same)

later : (first : ObjId) (ids : List ObjId) (other : ObjId) → Contains ids other → Contains (first ∷ ids) other
later first ids other (k, within, same) = (suc k, omega arith, same)

-- at an id that goes further back
more_later : (id first : ObjId) (ids new : List ObjId) → HasOneMore id ids new → HasOneMore id (first ∷ ids) (first ∷ new)
more_later id first ids new more other = (
  λ has. ⊎_elim (λ same. inr (here first ids other same)) (λ back. ⊎_elim inl (λ old. inr (later first ids other old)) ((more other).0 back)) (cases_cons first new other has),
  ⊎_elim (λ same. later first new other ((more other).1 (inl same))) (λ old. ⊎_elim (here first new other) (λ back. later first new other ((more other).1 (inr back))) (cases_cons first ids other old)),
)

pub members_with_id : (id : ObjId) (ids : List ObjId) → HasOneMore id ids (with_id id ids)
members_with_id id [] = λ other. (cases_cons id [] other, ⊎_elim (here id [] other) (later id [] other))
members_with_id id (first ∷ ids) = placed (more_later id first ids _ (members_with_id id ids)) (nat_lt first.0 id.0) (first.0 == id.0) refl
  where
    placed : HasOneMore id (first ∷ ids) (first ∷ with_id id ids) → (a b : Bool) → (first.0 == id.0) ≡ b → HasOneMore id (first ∷ ids) (if a then first ∷ with_id id ids else (if b then first ∷ ids else id ∷ first ∷ ids))
    placed more true b e = more
    placed more false true e = λ other. let is : first ≡ id = ap id_of (grind (arith, nat_tests)) in (inr, ⊎_elim (λ same. here first ids other (same ∙ sym is)) (λ old. old))
    placed more false false e = λ other. (cases_cons id (first ∷ ids) other, ⊎_elim (here id (first ∷ ids) other) (later id (first ∷ ids) other))
