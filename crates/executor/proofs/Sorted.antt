-- A stable sort has one answer.
use Rattle.std.proofs.Common.{◌≡◌, ℕ, ◌+◌, ◌<◌, Bool, true, false, not, ◌&&◌, cond, List, [], ◌∷◌, ◌++◌, length, get_or, filter, suc, refl, sym, ap, ◌∙◌, subst, arith}
use Rattle.std.specs.Prelude.{if◌then◌else◌}
use Rattle.std.specs.Cmp.{IsStrictWeakOrder}
use Rattle.std.specs.declared.cmp.Ordering.{Ordering}
use Rattle.std.specs.Ordering.{is_lt}
use Rattle.std.specs.Fn.{Called}
use denote.Param.Members.{Mut}
use denote.Ref.{Bor}
use Rattle.std.specs.List.Sorted.{IsSortedBy, IsStableBy, IsSortedByClosure, IsStableByClosure, ties}
use Rattle.std.proofs.lemmas.List.Sorted.{sorted_far}
use Rattle.std.proofs.lemmas.Fn.{always_returns_same}
use Rattle.executor.specs.Sorts.{inserted, in_order}

-- no element is below x
abbrev Low : {X : Type 0} → (X → X → Bool) → X → List X → Type 0
Low lt x [] = Unit {0}
Low lt x (y ∷ ys) = (lt y x ≡ false) × Low lt x ys

abbrev Up : {X : Type 0} → (X → X → Bool) → List X → Type 0
Up lt [] = Unit {0}
Up lt (x ∷ xs) = Low lt x xs × Up lt xs

self : {X : Type 0} (lt : X → X → Bool) → IsStrictWeakOrder lt → (x : X) → lt x x ≡ false
self lt o x = go (lt x x) refl
  where
    go : (b : Bool) → lt x x ≡ b → lt x x ≡ false
    go true e = o.one_way x x e
    go false e = e

tie : {X : Type 0} (lt : X → X → Bool) (x y : X) → lt x y ≡ false → lt y x ≡ false → ties lt x y ≡ true
tie lt x y e f = ap (λ b. not b && not (lt y x)) e ∙ ap (λ b. not false && not b) f

tie_left : {X : Type 0} (lt : X → X → Bool) (x y : X) → ties lt x y ≡ true → lt x y ≡ false
tie_left lt x y t = go (lt x y) refl
  where
    go : (b : Bool) → lt x y ≡ b → lt x y ≡ false
    go true e = absurd (let h : false ≡ true = sym (ap (λ b. not b && not (lt y x)) e) ∙ t in cc)
    go false e = e

tie_right : {X : Type 0} (lt : X → X → Bool) (x y : X) → ties lt x y ≡ true → lt y x ≡ false
tie_right lt x y t = go (lt y x) refl
  where
    go : (b : Bool) → lt y x ≡ b → lt y x ≡ false
    go true e = absurd (let h : false ≡ true = sym (ap (λ b. not b && not true) (tie_left lt x y t)) ∙ sym (ap (λ b. not (lt x y) && not b) e) ∙ t in cc)
    go false e = e

low_more : {X : Type 0} (lt : X → X → Bool) → IsStrictWeakOrder lt → (x y : X) (zs : List X) → lt y x ≡ false → Low lt y zs → Low lt x zs
low_more lt o x y [] e low = tt
low_more lt o x y (z ∷ zs) e low = (o.chain z y x low.0 e, low_more lt o x y zs e low.1)

low_inserted : {X : Type 0} (lt : X → X → Bool) (x row : X) (others : List X) → lt row x ≡ false → Low lt x others → Low lt x (inserted lt row others)
low_inserted lt x row [] e low = (e, tt)
low_inserted lt x row (other ∷ others) e low = go (lt row other) (low_inserted lt x row others e low.1)
  where
    go : (b : Bool) → Low lt x (inserted lt row others) → Low lt x (if b then row ∷ other ∷ others else other ∷ inserted lt row others)
    go true more = (e, low)
    go false more = (low.0, more)

up_inserted : {X : Type 0} (lt : X → X → Bool) → IsStrictWeakOrder lt → (row : X) (others : List X) → Up lt others → Up lt (inserted lt row others)
up_inserted lt o row [] up = (tt, tt)
up_inserted lt o row (other ∷ others) up = go (lt row other) refl (up_inserted lt o row others up.1)
  where
    go : (b : Bool) → lt row other ≡ b → Up lt (inserted lt row others) → Up lt (if b then row ∷ other ∷ others else other ∷ inserted lt row others)
    go true e more = ((o.one_way row other e, low_more lt o row other others (o.one_way row other e) up.0), up)
    go false e more = (low_inserted lt other row others e up.0, more)

-- what ties with one below the least ties with none
none_tie : {X : Type 0} (lt : X → X → Bool) → IsStrictWeakOrder lt → (x row least : X) (zs : List X) → ties lt x row ≡ true → lt row least ≡ true → Low lt least zs → filter (ties lt x) zs ≡ []
none_tie lt o x row least [] t e low = refl
none_tie lt o x row least (z ∷ zs) t e low = ap (λ b. cond b (z ∷ filter (ties lt x) zs) (filter (ties lt x) zs)) (go (ties lt x z) refl) ∙ none_tie lt o x row least zs t e low.1
  where
    go : (b : Bool) → ties lt x z ≡ b → ties lt x z ≡ false
    go true f = absurd (let h : lt row least ≡ false = o.chain row z least (o.chain row x z (tie_right lt x row t) (tie_left lt x z f)) low.0 in let k : true ≡ false = sym e ∙ h in cc)
    go false f = f

filter_append : {X : Type 0} (p : X → Bool) (xs ys : List X) → filter p (xs ++ ys) ≡ filter p xs ++ filter p ys
filter_append p [] ys = refl
filter_append p (x ∷ xs) ys = go (p x) (filter_append p xs ys)
  where
    go : (b : Bool) → filter p (xs ++ ys) ≡ filter p xs ++ filter p ys → cond b (x ∷ filter p (xs ++ ys)) (filter p (xs ++ ys)) ≡ cond b (x ∷ filter p xs) (filter p xs) ++ filter p ys
    go true e = ap (λ l. x ∷ l) e
    go false e = e

append_none : {X : Type 0} (xs : List X) → xs ++ [] ≡ xs
append_none [] = refl
append_none (x ∷ xs) = ap (λ l. x ∷ l) (append_none xs)

append_more : {X : Type 0} (xs : List X) (y : X) (ys : List X) → (xs ++ y ∷ []) ++ ys ≡ xs ++ y ∷ ys
append_more [] y ys = refl
append_more (x ∷ xs) y ys = ap (λ l. x ∷ l) (append_more xs y ys)

ties_inserted : {X : Type 0} (lt : X → X → Bool) → IsStrictWeakOrder lt → (x row : X) (others : List X) → Up lt others → filter (ties lt x) (inserted lt row others) ≡ filter (ties lt x) (others ++ row ∷ [])
ties_inserted lt o x row [] up = refl
ties_inserted lt o x row (other ∷ others) up = go (lt row other) refl (ties_inserted lt o x row others up.1)
  where
    behind : lt row other ≡ true → (b : Bool) → ties lt x row ≡ b → cond b (row ∷ filter (ties lt x) (other ∷ others)) (filter (ties lt x) (other ∷ others)) ≡ filter (ties lt x) (other ∷ others) ++ cond b (row ∷ []) []
    behind e true t =
        let none = none_tie lt o x row other (other ∷ others) t e (self lt o other, up.0) in
        ap (λ l. row ∷ l) none ∙ sym (ap (λ l. l ++ row ∷ []) none)
    behind e false t = sym (append_none (filter (ties lt x) (other ∷ others)))

    go : (b : Bool) → lt row other ≡ b → filter (ties lt x) (inserted lt row others) ≡ filter (ties lt x) (others ++ row ∷ []) → filter (ties lt x) (if b then row ∷ other ∷ others else other ∷ inserted lt row others) ≡ filter (ties lt x) (other ∷ others ++ row ∷ [])
    go true e more = behind e (ties lt x row) refl ∙ sym (filter_append (ties lt x) (other ∷ others) (row ∷ []))
    go false e more = ap (λ l. cond (ties lt x other) (other ∷ l) l) more

up_in_order : {X : Type 0} (lt : X → X → Bool) → IsStrictWeakOrder lt → (sorted rows : List X) → Up lt sorted → Up lt (in_order lt sorted rows)
up_in_order lt o sorted [] up = up
up_in_order lt o sorted (row ∷ rows) up = up_in_order lt o (inserted lt row sorted) rows (up_inserted lt o row sorted up)

ties_in_order : {X : Type 0} (lt : X → X → Bool) → IsStrictWeakOrder lt → (x : X) (sorted rows : List X) → Up lt sorted → filter (ties lt x) (in_order lt sorted rows) ≡ filter (ties lt x) (sorted ++ rows)
ties_in_order lt o x sorted [] up = ap (filter (ties lt x)) (sym (append_none sorted))
ties_in_order lt o x sorted (row ∷ rows) up =
    let p = ties lt x in
    ties_in_order lt o x (inserted lt row sorted) rows (up_inserted lt o row sorted up)
    ∙ filter_append p (inserted lt row sorted) rows
    ∙ ap (λ l. l ++ filter p rows) (ties_inserted lt o x row sorted up)
    ∙ sym (filter_append p (sorted ++ row ∷ []) rows)
    ∙ ap (filter p) (append_more sorted row rows)

-- what is less than the head of an ascending list ties with none of it
head_low : {X : Type 0} (lt : X → X → Bool) → IsStrictWeakOrder lt → (y z : X) (ys zs : List X) → Low lt y ys → filter (ties lt z) (y ∷ ys) ≡ filter (ties lt z) (z ∷ zs) → lt z y ≡ false
head_low lt o y z ys zs low same = go (lt z y) refl
  where
    go : (b : Bool) → lt z y ≡ b → lt z y ≡ false
    go true e =
        let zz = tie lt z z (self lt o z) (self lt o z) in
        let none = none_tie lt o z z y (y ∷ ys) zz e (self lt o y, low) in
        absurd (let h : [] ≡ z ∷ filter (ties lt z) zs = sym none ∙ same ∙ ap (λ b. cond b (z ∷ filter (ties lt z) zs) (filter (ties lt z) zs)) zz in cc)
    go false e = e

same_tails : {X : Type 0} (p : X → Bool) (y : X) (ys zs : List X) → filter p (y ∷ ys) ≡ filter p (y ∷ zs) → filter p ys ≡ filter p zs
same_tails p y ys zs = go (p y)
  where
    go : (b : Bool) → cond b (y ∷ filter p ys) (filter p ys) ≡ cond b (y ∷ filter p zs) (filter p zs) → filter p ys ≡ filter p zs
    go true e = let h : filter p ys ≡ filter p zs = cc in h
    go false e = e

unique : {X : Type 0} (lt : X → X → Bool) → IsStrictWeakOrder lt → (ys zs : List X) → Up lt ys → Up lt zs → ((x : X) → filter (ties lt x) ys ≡ filter (ties lt x) zs) → ys ≡ zs
unique lt o [] [] up up2 same = refl
unique lt o [] (z ∷ zs) up up2 same = absurd (let h : [] ≡ z ∷ filter (ties lt z) zs = same z ∙ ap (λ b. cond b (z ∷ filter (ties lt z) zs) (filter (ties lt z) zs)) (tie lt z z (self lt o z) (self lt o z)) in cc)
unique lt o (y ∷ ys) [] up up2 same = absurd (let h : [] ≡ y ∷ filter (ties lt y) ys = sym (same y) ∙ ap (λ b. cond b (y ∷ filter (ties lt y) ys) (filter (ties lt y) ys)) (tie lt y y (self lt o y) (self lt o y)) in cc)
unique lt o (y ∷ ys) (z ∷ zs) up up2 same =
    let below = head_low lt o y z ys zs up.0 (same z) in
    let above = head_low lt o z y zs ys up2.0 (sym (same y)) in
    let yy = tie lt y y (self lt o y) (self lt o y) in
    let yz = tie lt y z above below in
    let heads : y ∷ filter (ties lt y) ys ≡ z ∷ filter (ties lt y) zs =
    sym (ap (λ b. cond b (y ∷ filter (ties lt y) ys) (filter (ties lt y) ys)) yy) ∙ same y ∙ ap (λ b. cond b (z ∷ filter (ties lt y) zs) (filter (ties lt y) zs)) yz in
    let head : y ≡ z = cc in
    let same2 : (x : _) → filter (ties lt x) (y ∷ ys) ≡ filter (ties lt x) (y ∷ zs) = λ x. same x ∙ ap (λ h. filter (ties lt x) (h ∷ zs)) (sym head) in
    let tails = unique lt o ys zs up.1 up2.1 (λ x. same_tails (ties lt x) y ys zs (same2 x)) in
    ap (λ h. h ∷ ys) head ∙ ap (λ l. z ∷ l) tails

low_from : {X : Type 0} (lt : X → X → Bool) (x : X) (ys : List X) → ((j : ℕ) (d : X) → j < length ys → lt (get_or ys j d) x ≡ false) → Low lt x ys
low_from lt x [] all = tt
low_from lt x (y ∷ ys) all = (all 0 y (omega arith), low_from lt x ys (λ j d le. all (suc j) d (omega arith)))

up_from : {X : Type 0} (lt : X → X → Bool) → IsStrictWeakOrder lt → (ys : List X) → IsSortedBy lt ys → Up lt ys
up_from lt o [] sorted = tt
up_from lt o (y ∷ ys) sorted = (
  low_from lt y ys (λ j d le. sorted_far lt o (y ∷ ys) sorted 0 (suc j) d (omega arith) (omega arith)),
  up_from lt o ys (λ k d le lt2. let next : suc k + 1 ≡ suc (k + 1) = omega arith in subst (λ n. lt (get_or (y ∷ ys) n d) (get_or (y ∷ ys) (suc k) d) ≡ false) next (sorted (suc k) d (omega arith) (omega arith))),
)

pub only_order : {X : Type 0} (lt : X → X → Bool) → IsStrictWeakOrder lt → (xs ys : List X) → IsSortedBy lt ys → IsStableBy lt xs ys → ys ≡ in_order lt [] xs
only_order lt o xs ys sorted stable =
    unique lt o ys (in_order lt [] xs) (up_from lt o ys sorted) (up_in_order lt o [] xs tt) (λ x. stable x ∙ sym (ties_in_order lt o x [] xs tt))

module _ {F X : Type 0} {g : Mut F (Bor X × (Bor X × Unit {0})) Ordering} {f : F} (order : X → X → Ordering) where
  -- what a stable sort by a closure leaves
  pub sorted_once : IsStrictWeakOrder (λ x y. is_lt (order x y)) → (xs ys : List X) → IsSortedByClosure g f ys → IsStableByClosure g f xs ys → ((a : Bor X × (Bor X × Unit {0})) (r : Ordering) (f' : F) → Called g f a r f' → (r ≡ order a.0.now a.1.0.now) × (f' ≡ f)) → ys ≡ in_order (λ x y. is_lt (order x y)) [] xs
  sorted_once o xs ys up stable calls =
      let same = always_returns_same g (λ a r. is_lt r ≡ is_lt (order a.0.now a.1.0.now)) f (λ a r f' k. (ap is_lt (calls a r f' k).0, (calls a r f' k).1)) in
      only_order (λ x y. is_lt (order x y)) o xs ys (up _ o same) (stable _ o same)
