-- What the next entry of a range leaves of the range, and which entries a change leaves.
use Rattle.std.proofs.Common.{◌≡◌, Bool, true, false, true≢false, not, ◌&&◌, ◌||◌, cond, Option, None, Some, Result, Ok, Err, OnOk, MatchOption, Ordering, Less, Equal, Greater, List, [], ◌∷◌, filter, find, refl, sym, ap, ◌∙◌, subst}
use Rattle.std.specs.Ordering.{ordering_reverse, is_eq, is_gt}
use Rattle.std.specs.Cmp.{IsTotalOrder}
use Rattle.std.proofs.lemmas.Cmp.{tied_itself}
use Rattle.row_index.specs.declared.entries.IndexPlace.{IndexPlace}
use Rattle.row_index.specs.declared.entries.KeyRange.{KeyRange}
use Rattle.row_index.specs.Order.{value_cmp, entry_cmp, is_past}
use Rattle.row_index.specs.Ranges.{entries_past, is_next, is_within}
use Rattle.row_index.specs.Entries.{Each, IsAscending, by_order, has_entry, with_entry, without_entry}
use Rattle.row_index.proofs.Orders.{entries_total, greater_is, tied_both}
use Rattle.row_index.proofs.Lists.{both, each_map}

module _ {X : Type 0} where
  find_each : (P : X → Type 0) (r : X → Bool) (xs : List X) → Each P xs → (x : X) → find r xs ≡ Some x → P x
  find_each P r [] each x e = absurd (cc)
  find_each P r (y ∷ ys) each x e = at (r y) (find_each P r ys each.1 x) e
    where
      at : (b : Bool) → (find r ys ≡ Some x → P x) → cond b (Some y) (find r ys) ≡ Some x → P x
      at true later f = let same : y ≡ x = cc in subst P same each.0
      at false later f = later f

  filter_none : (r : X → Bool) (xs : List X) → find r xs ≡ None → filter r xs ≡ []
  filter_none r [] e = refl
  filter_none r (x ∷ xs) e = at (r x) (filter_none r xs) e
    where
      at : (b : Bool) → (find r xs ≡ None → filter r xs ≡ []) → cond b (Some x) (find r xs) ≡ None → cond b (x ∷ filter r xs) (filter r xs) ≡ []
      at true later f = absurd (cc)
      at false later f = later f

  filter_same : (p q : X → Bool) (xs : List X) → Each (λ x. p x ≡ q x) xs → filter p xs ≡ filter q xs
  filter_same p q [] each = refl
  filter_same p q (x ∷ xs) each = rw each.0 (ap (λ (rest : List X). cond (q x) (x ∷ rest) rest) (filter_same p q xs each.1))

and_false : (b : Bool) → b && false ≡ false
and_false true = refl
and_false false = refl

module _ (o : IsTotalOrder value_cmp) where
  abbrev order : IsTotalOrder entry_cmp
  order = entries_total o

  greater_later : (x y : IndexPlace) → entry_cmp x y ≡ Less → entry_cmp y x ≡ Greater
  greater_later x y lt = order.antisymm y x ∙ ap ordering_reverse lt

  past_up : (last : Option IndexPlace) (x y : IndexPlace) → entry_cmp x y ≡ Less → is_past last x ≡ true → is_past last y ≡ true
  past_up None x y lt e = refl
  past_up (Some last) x y lt e =
      let before : entry_cmp last x ≡ Less = order.antisymm last x ∙ ap ordering_reverse (greater_is _ e) in
      ap is_gt (greater_later last y (order.trans last x y before lt))

  -- past x there are the entries that are past the last one, where x is such an entry and they come after x
  same_past : (range : KeyRange) (last : Option IndexPlace) (x y : IndexPlace) → is_past last x ≡ true → entry_cmp x y ≡ Less → is_next range last y ≡ is_next range (Some x) y
  same_past range last x y e lt = ap (λ (past : Bool). is_within range y.key && past) (past_up last x y lt e ∙ sym (ap is_gt (greater_later x y lt)))

  not_past : (range : KeyRange) (found x : IndexPlace) → is_gt (entry_cmp x found) ≡ false → is_next range (Some found) x ≡ false
  not_past range found x e = ap (λ (past : Bool). is_within range x.key && past) e ∙ and_false (is_within range x.key)

  walk_found : (range : KeyRange) (last : Option IndexPlace) (xs : List IndexPlace) → IsAscending xs → (found : IndexPlace) → find (is_next range last) xs ≡ Some found → entries_past range last xs ≡ found ∷ entries_past range (Some found) xs
  walk_found range last [] up found e = absurd (cc)
  walk_found range last (x ∷ xs) up found e = at (is_next range last x) refl (walk_found range last xs up.1 found) e
    where
      here : x ≡ found → is_next range last x ≡ true → x ∷ entries_past range last xs ≡ found ∷ entries_past range (Some found) (x ∷ xs)
      here same next =
          let past = (both (is_within range x.key) (is_past last x) next).1 in
          let skipped = not_past range x x (ap is_gt (tied_itself order x)) in
          subst (λ (first : IndexPlace). x ∷ entries_past range last xs ≡ first ∷ entries_past range (Some first) (x ∷ xs)) same
          (ap (λ (rest : List IndexPlace). x ∷ rest)
          (filter_same (is_next range last) (is_next range (Some x)) xs (each_map (λ y. entry_cmp x y ≡ Less) (λ y. is_next range last y ≡ is_next range (Some x) y) (λ y lt. same_past range last x y past lt) xs up.0)
          ∙ sym (ap (λ (b : Bool). cond b (x ∷ entries_past range (Some x) xs) (entries_past range (Some x) xs)) skipped)))

      at : (b : Bool) → is_next range last x ≡ b → (find (is_next range last) xs ≡ Some found → entries_past range last xs ≡ found ∷ entries_past range (Some found) xs) → cond b (Some x) (find (is_next range last) xs) ≡ Some found
          → cond b (x ∷ entries_past range last xs) (entries_past range last xs) ≡ found ∷ entries_past range (Some found) (x ∷ xs)
      at true next later f = let same : x ≡ found = cc in here same next
      at false next later f =
          let lt = find_each (λ y. entry_cmp x y ≡ Less) (is_next range last) xs up.0 found f in
          later f ∙ sym (ap (λ (b : Bool). found ∷ cond b (x ∷ entries_past range (Some found) xs) (entries_past range (Some found) xs)) (not_past range found x (ap is_gt lt)))

  -- the next entry of a range is the first of those that are left of it
  pub walked : (range : KeyRange) (last : Option IndexPlace) (xs : List IndexPlace) → IsAscending xs → (found : Option IndexPlace) → found ≡ find (is_next range last) xs
      → MatchOption found (entries_past range last xs ≡ []) (λ first. entries_past range last xs ≡ first ∷ entries_past range (Some first) xs)
  walked range last xs up None e = filter_none (is_next range last) xs (sym e)
  walked range last xs up (Some found) e = walk_found range last xs up found (sym e)

  -- which entries there are with one more, and without one
  has_with : (entry : IndexPlace) (xs : List IndexPlace) (other : IndexPlace) → has_entry (with_entry entry xs) other ≡ is_eq (entry_cmp entry other) || has_entry xs other
  has_with entry [] other = refl
  has_with entry (x ∷ xs) other = at (entry_cmp x entry) refl (has_with entry xs other)
    where
      swapped : (a e h : Bool) → a || (e || h) ≡ e || (a || h)
      swapped true true h = refl
      swapped true false h = refl
      swapped false e h = refl

      twice : (a h : Bool) → a || h ≡ a || (a || h)
      twice true h = refl
      twice false h = refl

      at : (r : Ordering) → entry_cmp x entry ≡ r → has_entry (with_entry entry xs) other ≡ is_eq (entry_cmp entry other) || has_entry xs other
          → has_entry (by_order r (x ∷ with_entry entry xs) (x ∷ xs) (entry ∷ x ∷ xs)) other ≡ is_eq (entry_cmp entry other) || (is_eq (entry_cmp x other) || has_entry xs other)
      at Less e later = ap (λ (h : Bool). is_eq (entry_cmp x other) || h) later ∙ swapped (is_eq (entry_cmp x other)) (is_eq (entry_cmp entry other)) (has_entry xs other)
      at Equal e later = twice (is_eq (entry_cmp x other)) (has_entry xs other) ∙ ap (λ (r : Ordering). is_eq r || (is_eq (entry_cmp x other) || has_entry xs other)) (order.congr x entry other e)
      at Greater e later = refl

  equal_is : (r : Ordering) → is_eq r ≡ true → r ≡ Equal
  equal_is Less e = absurd (true≢false (sym e))
  equal_is Equal e = refl
  equal_is Greater e = absurd (true≢false (sym e))

  has_without : (gone : IndexPlace) (xs : List IndexPlace) (other : IndexPlace) → has_entry (without_entry gone xs) other ≡ not (is_eq (entry_cmp gone other)) && has_entry xs other
  has_without gone [] other = sym (and_false (not (is_eq (entry_cmp gone other))))
  has_without gone (x ∷ xs) other = at (is_eq (entry_cmp x gone)) refl (has_without gone xs other)
    where
      dropped : (g a h : Bool) → a ≡ g → not g && h ≡ not g && (a || h)
      dropped true a h e = refl
      dropped false true h e = absurd (true≢false e)
      dropped false false h e = refl

      stays : (g a h : Bool) → (g ≡ true → a ≡ true → ⊥) → a || (not g && h) ≡ not g && (a || h)
      stays true true h never = absurd (never refl refl)
      stays true false h never = refl
      stays false a h never = refl

      at : (b : Bool) → is_eq (entry_cmp x gone) ≡ b → has_entry (without_entry gone xs) other ≡ not (is_eq (entry_cmp gone other)) && has_entry xs other
          → has_entry (cond (not b) (x ∷ without_entry gone xs) (without_entry gone xs)) other ≡ not (is_eq (entry_cmp gone other)) && (is_eq (entry_cmp x other) || has_entry xs other)
      at true e later = later ∙ dropped (is_eq (entry_cmp gone other)) (is_eq (entry_cmp x other)) (has_entry xs other) (ap is_eq (order.congr x gone other (equal_is _ e)))
      at false e later =
          ap (λ (h : Bool). is_eq (entry_cmp x other) || h) later
          ∙ stays (is_eq (entry_cmp gone other)) (is_eq (entry_cmp x other)) (has_entry xs other)
          (λ g a. true≢false (sym (ap is_eq (tied_both order x gone other (equal_is _ a) (equal_is _ g))) ∙ e))

  pub members_with : {A E : Type 0} (r : Result A E) (entry : IndexPlace) (old new : List IndexPlace) → OnOk r (new ≡ with_entry entry old) → OnOk r ((other : IndexPlace) → has_entry new other ≡ is_eq (entry_cmp entry other) || has_entry old other)
  members_with (Ok a) entry old new e = λ other. ap (λ (xs : List IndexPlace). has_entry xs other) e ∙ has_with entry old other
  members_with (Err err) entry old new e = tt

  pub members_without : (gone : IndexPlace) (old new : List IndexPlace) → new ≡ without_entry gone old → (other : IndexPlace) → has_entry new other ≡ not (is_eq (entry_cmp gone other)) && has_entry old other
  members_without gone old new e other = ap (λ (xs : List IndexPlace). has_entry xs other) e ∙ has_without gone old other
