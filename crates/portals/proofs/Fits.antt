-- Which cursors can be asked.
use Rattle.std.proofs.Common.{◌≡◌, ℕ, zero, suc, ◌⊎◌, ⊎_elim, inl, inr, List, [], ◌∷◌, map, Result, Ok, Err, OnOk, Option, Some, None, IfSome, refl, ap, subst, ◌∙◌}
use Rattle.std.proofs.lemmas.Option.{none-some}
use Rattle.std.specs.List.{slice_get}
use Rattle.indexmap.specs.IndexMap.{IndexMap, values, with_value_at, set_value_at}
use Rattle.portals.specs.Cursors.{Standing, AllFit}

some-fits : {F : Type 0} (fits : F → Type 0) (feed : Option F) → ((f : F) → feed ≡ Some f → fits f) → IfSome feed fits
some-fits fits (Some f) each = each f refl
some-fits fits None each = tt

-- the cursor of a place can
pub one-fits : {F P : Type 0} (fits : F → Type 0) (cursors : List (Standing F P)) (at : ℕ) (c : Standing F P) → AllFit fits cursors → slice_get cursors at ≡ Some c → IfSome c.feed fits
one-fits fits cursors at c all is = some-fits fits c.feed (λ f e. all at c f is e)

abbrev or : {A : Type 0} → A → Option A → A
or other (Some a) = a
or other None = other

feed-fits : {F : Type 0} (fits : F → Type 0) (feed : Option F) (f : F) → IfSome feed fits → feed ≡ Some f → fits f
feed-fits fits (Some g) f fit is = subst fits (ap (or g) is) fit
feed-fits fits None f fit is = absurd (none-some f is)

-- a value that is read after a write was written or was there
value-set : {K X : Type 0} (es : List (K × X)) (i at : ℕ) (w c : X) → slice_get (map (λ e. e.1) (set_value_at es i w)) at ≡ Some c → (w ≡ c) ⊎ (slice_get (map (λ e. e.1) es) at ≡ Some c)
value-set [] i at w c is = inr is
value-set (e ∷ es) zero zero w c is = inl (ap (or w) is)
value-set (e ∷ es) zero (suc at) w c is = inr is
value-set (e ∷ es) (suc i) zero w c is = inr is
value-set (e ∷ es) (suc i) (suc at) w c is = value-set es i at w c is

-- all still can where one that can is put in another's place
pub set-fits : {K S F P : Type 0} (fits : F → Type 0) (m : IndexMap K (Standing F P) S) (i : ℕ) (w : Standing F P) → AllFit fits (values m) → IfSome w.feed fits → AllFit fits (values (with_value_at m i w))
set-fits fits m i w all fit at c f is feed =
    ⊎_elim (λ same. feed-fits fits w.feed f fit (ap (λ s. s.feed) same ∙ feed)) (λ there. all at c f there feed) (value-set m.entries i at w c is)

pub ok-set : {K S F P T E : Type 0} (fits : F → Type 0) (m : IndexMap K (Standing F P) S) (i : ℕ) (w : Standing F P) (r : Result T E) → AllFit fits (values m) → OnOk r (IfSome w.feed fits) → OnOk r (AllFit fits (values (with_value_at m i w)))
ok-set fits m i w (Ok x) all fit = set-fits fits m i w all fit
ok-set fits m i w (Err e) all fit = tt
