-- The cursors of a session, and what a call does to one of them.
use Rattle.std.specs.Prelude.{◌≡◌, ℕ, List, [], ◌∷◌, slice_get, slice_set, Option, Some, Result, MatchOption, MatchResult}
use Rattle.std.specs.List.{position}
use Rattle.std.specs.Str.{bytes_eq}
use Rattle.q_base.specs.declared.code.Code.TheVariants.{UnknownCursor}
use Rattle.q_base.specs.declared.errors.Stop.{Stop}
use Rattle.q_base.specs.Stops.{StopsBy}
use Rattle.portals.specs.Cursors.{Standing, Cursors}

-- the place of a name in order of declaration
abbrev pub place_of : List (List ℕ) → List ℕ → Option ℕ
place_of names name = position (bytes_eq name) names

-- a call refuses a name that no cursor has
abbrev pub RefusesName : {A : Type 0} → List ℕ → Result A Stop → Type 0
RefusesName name outcome = MatchResult outcome (λ _. ⊥) (StopsBy (λ e. e ≡ record { code = UnknownCursor; args = name ∷ [] }))

-- a call does something to the cursor of a name, and leaves all others as they are; it refuses a name that none has
abbrev pub DoesOne : {A F P : Type 0} → (Standing F P → Result A Stop → Standing F P → Type 0) → List ℕ → Cursors F P → Result A Stop → Cursors F P → Type 0
DoesOne {A} {F} {P} Does name old outcome new =
    MatchOption (place_of old.names name)
    (RefusesName name outcome × (new ≡ old))
    (λ at. (c : Standing F P) × (d : Standing F P) × (slice_get old.cursors at ≡ Some c) × Does c outcome d × (new ≡ record old { cursors = slice_set old.cursors at d }))
