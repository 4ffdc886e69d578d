-- What was reached so far, and what is reached in the end.
use Rattle.std.proofs.Common.{◌≡◌, ◌↔◌, ℕ, ◌+◌, ◌<◌, ◌≤◌, Bool, true, false, nat_lt, List, [], ◌∷◌, ◌++◌, length, get_or, Contains, Some, None, Result, Ok, Err, IfOk, ◌⊎◌, inl, inr, ⊎_elim, refl, sym, ap, ◌∙◌, subst, arith}
use Rattle.std.specs.List.{slice_get}
use Rattle.std.proofs.lemmas.Bool.Decides.{nat_tests}
use Rattle.std.proofs.lemmas.List.{append-nil, append_assoc}
use Rattle.std.proofs.lemmas.List.Elements.{Contains-append_left, Contains-append_right, Contains-append_cases, Contains-push}
use Rattle.std.proofs.lemmas.Option.{slice_get_read, slice_get_cases, get_or_from_slice_get, slice_get-get_or}
use Rattle.std.proofs.Math.ListN.{get_or-append}
use Rattle.q_base.specs.declared.errors.NoMemory.{NoMemory}
use Rattle.q_base.specs.declared.ids.ObjId.{ObjId}
use Rattle.q_base.specs.IdLists.{HasOneMore}
use Rattle.cat_core.specs.declared.slots.Slot.{Slot}
use Rattle.cat_deps.specs.declared.reached.Reached.{Reached}
use Rattle.cat_deps.specs.Reached.{Adds, IsListed, Reaches, names_of}
use Rattle.cat_deps.specs.Reached.Reaches.{given, through}

only : (x y : ObjId) → Contains (x ∷ []) y → y ≡ x
only x y found = let at : found.0 ≡ 0 = omega (arith, found.1) in sym found.2 ∙ ap (λ n. get_or (x ∷ []) n y) at

the_one : (x : ObjId) → Contains (x ∷ []) x
the_one x = (0, omega arith, refl)

-- nothing is added
pub adds_none : (r : Reached) → IsListed r → Adds [] r r
adds_none r listed = record {
  listed = listed;
  found = λ id. (inl, ⊎_elim (λ there. there) (λ never. absurd (omega (arith, never.1))));
  more = [];
  order = sym (append-nil r.order.items);
}

-- an id that is there already
pub adds_there : (id : ObjId) (r : Reached) → IsListed r → Contains r.found id → Adds (id ∷ []) r r
adds_there id r listed there = record {
  listed = listed;
  found = λ other. (inl, ⊎_elim (λ found. found) (λ last. subst (Contains r.found) (sym (only id other last)) there));
  more = [];
  order = sym (append-nil r.order.items);
}

-- another one
pub adds_one : (id : ObjId) (old new : Reached) → IsListed old → HasOneMore id old.found new.found → new.order.items ≡ old.order.items ++ id ∷ [] → Adds (id ∷ []) old new
adds_one id old new listed more order = record {
  listed = λ other. subst (λ (xs : List ObjId). Contains new.found other ↔ Contains xs other) (sym order) (
    λ found. ⊎_elim (λ e. subst (Contains (old.order.items ++ id ∷ [])) (sym e) (Contains-push old.order.items id)) (λ there. Contains-append_left old.order.items (id ∷ []) other ((listed other).0 there)) ((more other).0 found),
    λ found. (more other).1 (⊎_elim (λ there. inr ((listed other).1 there)) (λ last. inl (only id other last)) (Contains-append_cases old.order.items (id ∷ []) other found)),
  );
  found = λ other. (
    λ found. ⊎_elim (λ e. inr (subst (Contains (id ∷ [])) (sym e) (the_one id))) inl ((more other).0 found),
    λ found. (more other).1 (⊎_elim inr (λ last. inl (only id other last)) found),
  );
  more = id ∷ [];
  order = order;
}

-- some and then others
pub adds_both : (xs ys : List ObjId) (a b c : Reached) → Adds xs a b → Adds ys b c → Adds (xs ++ ys) a c
adds_both xs ys a b c first last = record {
  listed = last.listed;
  found = λ id. (
    λ found. ⊎_elim (λ before. ⊎_elim inl (λ x. inr (Contains-append_left xs ys id x)) ((first.found id).0 before)) (λ y. inr (Contains-append_right xs ys id y)) ((last.found id).0 found),
    ⊎_elim (λ there. (last.found id).1 (inl ((first.found id).1 (inl there)))) (λ one. ⊎_elim (λ x. (last.found id).1 (inl ((first.found id).1 (inr x)))) (λ y. (last.found id).1 (inr y)) (Contains-append_cases xs ys id one)),
  );
  more = first.more ++ last.more;
  order = last.order ∙ ap (λ (zs : List ObjId). zs ++ last.more) first.order ∙ append_assoc a.order.items first.more last.more;
}

-- what the first so many of the list name was added
pub record Visited (slots : List Slot) (ids : List ObjId) (turn : ℕ) (r : Reached) : Type 0 where
  pub listed : IsListed r
  pub sound : (id : ObjId) → Contains r.found id → Reaches slots ids id
  pub all : (id : ObjId) → Contains ids id → Contains r.found id
  pub closed : (k : ℕ) (view id : ObjId) → k < turn → slice_get r.order.items k ≡ Some view → Contains (names_of slots view) id → Contains r.found id

pub visited_first : (slots : List Slot) (ids : List ObjId) (old new : Reached) → old.found ≡ [] → Adds ids old new → Visited slots ids 0 new
visited_first slots ids old new empty adds = record {
  listed = adds.listed;
  sound = λ id found. ⊎_elim (λ never. absurd (none id (subst (λ (xs : List ObjId). Contains xs id) empty never))) (λ one. given one) ((adds.found id).0 found);
  all = λ id one. (adds.found id).1 (inr one);
  closed = λ k view id below. absurd (omega arith);
}
  where
    none : (id : ObjId) → Contains [] id → ⊥
    none id (k, within, same) = absurd (omega arith)

-- the place of an element is in the list
in_range : (xs : List ObjId) (i : ℕ) (x : ObjId) → slice_get xs i ≡ Some x → i < length xs
in_range xs i x at = ⊎_elim (λ there. there.1) (λ past. absurd (cc (sym past.1 ∙ at))) (slice_get_cases xs i).1

some_is : (x y : ObjId) → Some x ≡ Some y → x ≡ y
some_is x y e = cc e

split : (k n : ℕ) → k < n + 1 → (k < n) ⊎ (k ≡ n)
split k n lt = go (nat_lt k n) refl
  where
    go : (b : Bool) → nat_lt k n ≡ b → (k < n) ⊎ (k ≡ n)
    go true e = inl (grind (arith, nat_tests))
    go false e = inr (grind (arith, nat_tests))

pub visited_more : (slots : List Slot) (ids : List ObjId) (turn : ℕ) (id : ObjId) (old new : Reached) → slice_get old.order.items turn ≡ Some id → Visited slots ids turn old → Adds (names_of slots id) old new → Visited slots ids (turn + 1) new
visited_more slots ids turn id old new at before adds = record {
  listed = adds.listed;
  sound = λ other found. ⊎_elim (before.sound other) (λ named. through (before.sound id reached) named) ((adds.found other).0 found);
  all = λ other one. (adds.found other).1 (inl (before.all other one));
  closed = λ k view other below there named. ⊎_elim
      (λ lt. (adds.found other).1 (inl (before.closed k view other lt (as_before k view (omega (arith, within, lt)) there) named)))
      (λ e. (adds.found other).1 (inr (subst (λ (v : ObjId). Contains (names_of slots v) other) (the_view k view e there) named)))
      (split k turn below);
}
  where
    within : turn < length old.order.items
    within = in_range old.order.items turn id at

    reached : Contains old.found id
    reached = (before.listed id).1 (turn, within, get_or_from_slice_get old.order.items turn id id at)

    as_before : (k : ℕ) (view : ObjId) → k < length old.order.items → slice_get new.order.items k ≡ Some view → slice_get old.order.items k ≡ Some view
    as_before k view lt there =
        slice_get-get_or old.order.items k view lt ∙ ap Some (sym (get_or-append old.order.items adds.more view k lt) ∙ sym (ap (λ (xs : List ObjId). get_or xs k view) adds.order) ∙ get_or_from_slice_get new.order.items k view view there)

    the_view : (k : ℕ) (view : ObjId) → k ≡ turn → slice_get new.order.items k ≡ Some view → view ≡ id
    the_view k view e there =
        let lt : k < length old.order.items = omega (arith, within, e) in
        let at_k : slice_get old.order.items k ≡ Some id = ap (slice_get old.order.items) e ∙ at in
        some_is view id (sym (as_before k view lt there) ∙ at_k)

-- when no more is to come, what is reached is what was found
pub visited_all : (slots : List Slot) (ids : List ObjId) (turn : ℕ) (r : Reached) → Visited slots ids turn r → length r.order.items ≤ turn → (id : ObjId) → Contains r.found id ↔ Reaches slots ids id
visited_all slots ids turn r visited done id = (visited.sound id, complete id)
  where
    complete : (id : ObjId) → Reaches slots ids id → Contains r.found id
    complete id (given one) = visited.all id one
    complete id (through {view} reached named) = named_by view id (complete view reached) named
      where
        named_by : (view id : ObjId) → Contains r.found view → Contains (names_of slots view) id → Contains r.found id
        named_by view id found named = at_place ((visited.listed view).0 found)
          where
            at_place : Contains r.order.items view → Contains r.found id
            at_place (k, within, same) = visited.closed k view id (omega (arith, within, done)) (slice_get_read r.order.items (length r.order.items) k view refl within (sym same)) named

-- nothing is at a place past the end
pub past_end : (xs : List ObjId) (i : ℕ) → slice_get xs i ≡ None → length xs ≤ i
past_end xs i none = ⊎_elim (λ there. absurd (cc (sym none ∙ there.2))) (λ past. past.0) (slice_get_cases xs i).1

-- what reaches the same from other lists of the same ids
from_others : (slots : List Slot) (xs ys : List ObjId) → ((id : ObjId) → Contains xs id → Contains ys id) → (id : ObjId) → Reaches slots xs id → Reaches slots ys id
from_others slots xs ys more id (given one) = given (more id one)
from_others slots xs ys more id (through {view} reached named) = through (from_others slots xs ys more view reached) named

pub reached_from : (slots : List Slot) (xs ys : List ObjId) → ((id : ObjId) → Contains xs id ↔ Contains ys id) → (r : Result (List ObjId) NoMemory) →
    IfOk r (λ found. (id : ObjId) → Contains found id ↔ Reaches slots xs id) → IfOk r (λ found. (id : ObjId) → Contains found id ↔ Reaches slots ys id)
reached_from slots xs ys same (Ok found) reached = λ id. (
  λ there. from_others slots xs ys (λ other. (same other).0) id ((reached id).0 there),
  λ reach. (reached id).1 (from_others slots ys xs (λ other. (same other).1) id reach),
)
reached_from slots xs ys same (Err refused) reached = reached
