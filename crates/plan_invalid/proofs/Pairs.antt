-- Lemmas on pairs of an object and a key, and on sets of them.
use Rattle.std.proofs.Common.{◌≡◌, ℕ, zero, suc, ◌+◌, ◌==◌, ◌<◌, Bool, true, false, not, cond, ◌&&◌, ◌||◌, List, [], ◌∷◌, take, length, get_or, refl, sym, ap, ◌∙◌, arith}
use Rattle.std.proofs.lemmas.Bool.{eqb-true}
use Rattle.std.proofs.lemmas.Bool.Decides.{nat_tests}
use Rattle.std.proofs.lemmas.List.Folds.{list_any_more}
use Rattle.std.specs.declared.ops.Bound.TheVariants.{Included, Excluded}
use Rattle.std.specs.List.{list_any}
use Rattle.std.specs.Ordering.{is_eq}
use Rattle.std.specs.BTreeMap.{is_at}
use Rattle.std.specs.BTreeMap.Range.{range_contains}
use Rattle.std.specs.BTreeSet.{BTreeSet, contains}
use Rattle.q_base.specs.declared.ids.ObjId.{ObjId}
use Rattle.plan_invalid.specs.Sources.{is_among}
use Rattle.plan_invalid.specs.Index.{pair_cmp, is_listed, ListsMore, ListsSome, ListsLess}

-- pairs compare equal where both parts are equal
pub pairs_equal : (p q : ObjId × ℕ) → is_eq (pair_cmp p q) ≡ (p.0.0 == q.0.0 && q.1 == p.1)
pairs_equal p q = grind (arith, nat_tests)

-- the pairs of an object with a key below `end` are those between its first and `end`
pub is_between : (id : ObjId) (end key : ℕ) (p : ObjId × ℕ) → key < end → (range_contains pair_cmp (Included (id, 0)) (Excluded (id, end)) p && p.1 == key) ≡ is_eq (pair_cmp (id, key) p)
is_between id end key p below = grind (arith, nat_tests)

-- ---- one pair

put_in : (a b old : Bool) → cond (a && b) true old ≡ ((a || false) && b || old)
put_in true true old = refl
put_in true false old = refl
put_in false b old = refl

pub ListsMore-one : (old new : BTreeSet (ObjId × ℕ)) (id : ObjId) (key : ℕ) → ((q : ObjId × ℕ) → contains pair_cmp new q ≡ cond (is_at (pair_cmp (id, key)) q) true (contains pair_cmp old q)) → ListsMore old new key (id ∷ [])
ListsMore-one old new id key updates = λ other place.
    updates (other, place) ∙ rw (pairs_equal (id, key) (other, place)) (put_in (id.0 == other.0) (place == key) (is_listed old other place))

taken_out : (a b old kept : Bool) → (a ≡ true → kept ≡ false) → cond (a && b) false old ≡ (old && not ((a || false) && not kept && b))
taken_out true true true kept unless = rw (unless refl) refl
taken_out true true false kept unless = refl
taken_out true false true true unless = refl
taken_out true false true false unless = refl
taken_out true false false kept unless = refl
taken_out false b true kept unless = refl
taken_out false b false kept unless = refl

pub ListsLess-one : (old new : BTreeSet (ObjId × ℕ)) (id : ObjId) (key : ℕ) (kept : List ObjId) → is_among kept id ≡ false → ((q : ObjId × ℕ) → contains pair_cmp new q ≡ cond (is_at (pair_cmp (id, key)) q) false (contains pair_cmp old q)) → ListsLess old new key (id ∷ []) kept
ListsLess-one old new id key kept absent updates = λ other place.
    let same : id.0 == other.0 ≡ true → is_among kept other ≡ false = λ e. ap (λ n. list_any (λ x. x.0 == n) kept) (sym (eqb-true id.0 other.0 e)) ∙ absent in
    updates (other, place) ∙ rw (pairs_equal (id, key) (other, place)) (taken_out (id.0 == other.0) (place == key) (is_listed old other place) (is_among kept other) same)

-- ---- one more pair

put_more : (a x b old : Bool) → ((x || false) && b || (a && b || old)) ≡ ((a || x) && b || old)
put_more true true true old = refl
put_more true true false old = refl
put_more true false true old = refl
put_more true false false old = refl
put_more false true true old = refl
put_more false true false old = refl
put_more false false b old = refl

pub ListsMore-more : (old mid new : BTreeSet (ObjId × ℕ)) (key : ℕ) (ids : List ObjId) (i : ℕ) (d : ObjId) → i < length ids → ListsMore old mid key (take i ids) → ListsMore mid new key (get_or ids i d ∷ []) → ListsMore old new key (take (i + 1) ids)
ListsMore-more old mid new key ids i d within before step = λ id place.
    step id place ∙ rw (before id place, list_any_more (λ x. x.0 == id.0) ids i d within) (put_more (is_among (take i ids) id) ((get_or ids i d).0 == id.0) (place == key) (is_listed old id place))

take_more_out : (a x k b old : Bool) → ((old && not (a && k && b)) && not ((x || false) && k && b)) ≡ (old && not ((a || x) && k && b))
take_more_out a x k b false = refl
take_more_out true true true true true = refl
take_more_out true true true false true = refl
take_more_out true true false b true = refl
take_more_out true false true true true = refl
take_more_out true false true false true = refl
take_more_out true false false b true = refl
take_more_out false true k b true = refl
take_more_out false false k b true = refl

pub ListsLess-more : (old mid new : BTreeSet (ObjId × ℕ)) (key : ℕ) (ids kept : List ObjId) (i : ℕ) (d : ObjId) → i < length ids → ListsLess old mid key (take i ids) kept → ListsLess mid new key (get_or ids i d ∷ []) kept → ListsLess old new key (take (i + 1) ids) kept
ListsLess-more old mid new key ids kept i d within before step = λ id place.
    step id place ∙ rw (before id place, list_any_more (λ x. x.0 == id.0) ids i d within) (take_more_out (is_among (take i ids) id) ((get_or ids i d).0 == id.0) (not (is_among kept id)) (place == key) (is_listed old id place))

-- what is among the first of some ids is among them
among_first : (ids : List ObjId) (i : ℕ) (id : ObjId) → is_among (take i ids) id ≡ true → is_among ids id ≡ true
among_first [] zero id found = found
among_first [] (suc i) id found = found
among_first (x ∷ ids) zero id found = absurd (cc)
among_first (x ∷ ids) (suc i) id found = go (x.0 == id.0) (is_among (take i ids) id) (is_among ids id) (among_first ids i id) found where
  go : (a b c : Bool) → (b ≡ true → c ≡ true) → (a || b) ≡ true → (a || c) ≡ true
  go true b c later here = refl
  go false b c later here = later here

pub ListsSome-first : (old mid new : BTreeSet (ObjId × ℕ)) (key : ℕ) (ids : List ObjId) (i : ℕ) → ListsMore old mid key (take i ids) → new.keys ≡ mid.keys → ListsSome old new key ids
ListsSome-first old mid new key ids i more same = (
  take i ids,
  λ id other. ap (λ pairs. list_any (is_at (pair_cmp (id, other))) pairs) same ∙ more id other,
  λ id. among_first ids i id,
)
