use Rattle.std.specs.Prelude.{◌≡◌, Option, None, Some, List, [], ◌∷◌}
use Rattle.q_value.specs.declared.value.Outcome.{Outcome}
use Rattle.q_value.specs.declared.value.Outcome.TheVariants.{Row, Fault}

-- the first of what was left is given, and the others are left
abbrev pub GivesFirst : List Outcome → Option Outcome → List Outcome → Type 0
GivesFirst [] given after = (given ≡ None) × (after ≡ [])
GivesFirst (outcome ∷ outcomes) given after = (given ≡ Some outcome) × (after ≡ outcomes)

-- a fault stands only as the last
abbrev pub EndsAtFault : List Outcome → Type 0
EndsAtFault [] = Unit {0}
EndsAtFault (Row row ∷ outcomes) = EndsAtFault outcomes
EndsAtFault (Fault code ∷ outcomes) = outcomes ≡ []
