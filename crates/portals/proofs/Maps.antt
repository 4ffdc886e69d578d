-- The cursors of a map's entries.
use Rattle.std.proofs.Common.{◌≡◌, ℕ, zero, suc, ◌+◌, Bool, not, cond, List, [], ◌∷◌, map, length, Some, None, Result, Err, MatchOption, nat_lt, refl, sym, ap, subst, ◌∙◌}
use Rattle.std.specs.List.{position, position_or_len, slice_get, slice_set}
use Rattle.std.specs.Str.{bytes_eq}
use Rattle.std.specs.String.{string_bytes}
use Rattle.std.specs.Prelude.{String}
use Rattle.std.specs.declared.alloc.Global.{Global}
use Rattle.q_base.specs.declared.code.Code.TheVariants.{UnknownCursor}
use Rattle.q_base.specs.declared.errors.Stop.{Stop}
use Rattle.q_base.specs.Stops.{StopsBy}
use Rattle.indexmap.specs.IndexMap.{IndexMap, keys, values, with_value_at, set_value_at, index_of_by}
use Rattle.indexmap.proofs.CallerLemmas.{keys-with_value_at}
use Rattle.portals.specs.Cursors.{Standing, Cursors}
use Rattle.portals.specs.Sessions.{place_of, RefusesName, DoesOne}

values-set : {K X : Type 0} (es : List (K × X)) (i : ℕ) (w : X) → map (λ e. e.1) (set_value_at es i w) ≡ slice_set (map (λ e. e.1) es) i w
values-set [] i w = refl
values-set (e ∷ es) zero w = refl
values-set (e ∷ es) (suc i) w = ap (λ others. e.1 ∷ others) (values-set es i w)

length-map : {A B : Type 0} (f : A → B) (xs : List A) → length (map f xs) ≡ length xs
length-map f [] = refl
length-map f (x ∷ xs) = ap suc (length-map f xs)

place-map : {A B : Type 0} (f : A → B) (p : B → Bool) (xs : List A) → position_or_len (λ x. p (f x)) xs ≡ position_or_len p (map f xs)
place-map f p [] = refl
place-map f p (x ∷ xs) = ap (λ n. cond (not (p (f x))) (1 + n) 0) (place-map f p xs)

position-map : {A B : Type 0} (f : A → B) (p : B → Bool) (xs : List A) → position (λ x. p (f x)) xs ≡ position p (map f xs)
position-map f p xs = λ i. cond (nat_lt (place-map f p xs i) (sym (length-map f xs) i)) (Some (place-map f p xs i)) None

-- the place of a name in the map
pub place-in : {X S : Type 0} (m : IndexMap (String Global) X S) (name : List ℕ) → index_of_by (λ key. bytes_eq name (string_bytes key)) m ≡ place_of (map string_bytes (keys m)) name
place-in m name = position-map string_bytes (bytes_eq name) (keys m)

abbrev pub the-cursors : {F P S : Type 0} → IndexMap (String Global) (Standing F P) S → List P → Cursors F P
the-cursors m ended = record { names = map string_bytes (keys m); cursors = values m; ended = ended }

-- what a session's cursors are once one of them was written
pub one-set : {F P S : Type 0} (m : IndexMap (String Global) (Standing F P) S) (ended : List P) (i : ℕ) (w : Standing F P)
    → the-cursors (with_value_at m i w) ended ≡ record (the-cursors m ended) { cursors = slice_set (values m) i w }
one-set m ended i w = λ j. record { names = map string_bytes (keys-with_value_at m i w j); cursors = values-set m.entries i w j; ended = ended }

-- one cursor was written
pub does-one : {A F P S : Type 0} (Does : Standing F P → Result A Stop → Standing F P → Type 0) (name : List ℕ) (m : IndexMap (String Global) (Standing F P) S) (ended : List P) (old : Cursors F P) (at : ℕ) (c d : Standing F P) (outcome : Result A Stop)
    → the-cursors m ended ≡ old → index_of_by (λ key. bytes_eq name (string_bytes key)) m ≡ Some at → slice_get (values m) at ≡ Some c → Does c outcome d
    → DoesOne Does name old outcome (the-cursors (with_value_at m at d) ended)
does-one {F = F} {P = P} Does name m ended old at c d outcome is place there does =
    subst (λ (s : Cursors F P). DoesOne Does name s outcome (the-cursors (with_value_at m at d) ended)) is
    (subst
    (λ o. MatchOption o
    (RefusesName name outcome × (the-cursors (with_value_at m at d) ended ≡ the-cursors m ended))
    (λ spot. (c : Standing F P) × (e : Standing F P) × (slice_get (values m) spot ≡ Some c) × Does c outcome e × (the-cursors (with_value_at m at d) ended ≡ record (the-cursors m ended) { cursors = slice_set (values m) spot e })))
    (sym place ∙ place-in m name)
    (c, d, there, does, one-set m ended at d))

-- no cursor has the name
pub does-none : {A F P S : Type 0} (Does : Standing F P → Result A Stop → Standing F P → Type 0) (name : List ℕ) (m : IndexMap (String Global) (Standing F P) S) (ended : List P) (old : Cursors F P) (stop : Stop)
    → the-cursors m ended ≡ old → index_of_by (λ key. bytes_eq name (string_bytes key)) m ≡ None → StopsBy (λ e. e ≡ record { code = UnknownCursor; args = name ∷ [] }) stop
    → DoesOne Does name old (Err stop) old
does-none {A = A} {F = F} {P = P} Does name m ended old stop is place stops =
    let none : place_of old.names name ≡ None = sym (ap (λ s. place_of s.names name) is) ∙ (sym (place-in m name) ∙ place) in
    subst
    (λ o. MatchOption o
    (RefusesName {A = A} name (Err stop) × (old ≡ old))
    (λ at. (c : Standing F P) × (d : Standing F P) × (slice_get old.cursors at ≡ Some c) × Does c (Err stop) d × (old ≡ record old { cursors = slice_set old.cursors at d })))
    (sym none) (stops, refl)
