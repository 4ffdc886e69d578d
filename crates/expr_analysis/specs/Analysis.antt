-- Analysis: what it knows on the way, and its first refusal.
use Rattle.std.specs.Prelude.{◌≡◌, ℕ, ◌-◌, Bool, ◌&&◌, nat_lt, nat_le, Option, None, Some, Result, Ok, Err, List, [], ◌∷◌, ◌++◌, length, map, slice_get, slice_set, unwrap_or, replicate, is_some, if◌then◌else◌}
use Rattle.q_base.specs.declared.errors.SqlError.{SqlError}
use Rattle.q_base.specs.declared.errors.Stop.{Stop}
use Rattle.q_base.specs.declared.errors.Stop.TheVariants.{Sql, NoMemory}
use Rattle.q_value.specs.declared.value.SqlType.{SqlType}
use Rattle.expr_analysis.specs.declared.state.Known.{Known}
use Rattle.expr_analysis.specs.declared.state.Known.TheVariants.{Unused, Typed}
use Rattle.expr_analysis.specs.declared.state.State.{State}

-- ---- what is known of the parameters, in order from $1

abbrev pub known_types : List SqlType → List Known
known_types types = map (λ type. Typed type) types

abbrev pub known_at : List Known → ℕ → Known
known_at known place = unwrap_or (slice_get known place) Unused

-- the list, with as many unused parameters more as it takes to reach the place
abbrev pub with_place : ℕ → List Known → List Known
with_place place known = if nat_le (length known) place then known ++ Unused ∷ [] else known

abbrev pub reached : ℕ → List Known → List Known
reached place known = with_place place (known ++ replicate (place - length known) Unused)

abbrev pub noted : ℕ → Known → List Known → List Known
noted place fact known = if nat_lt place (length known) then slice_set known place fact else known

-- ---- analyses: each gives what it finds, or the first refusal, and what is known after it

abbrev pub Outcome : Type 0 → Type 0
Outcome A = Result (A × State) (SqlError × State)

abbrev pub Analysis : Type 0 → Type 0
Analysis A = State → Outcome A

abbrev pub and_then : {A B : Type 0} → Outcome A → (A → Analysis B) → Outcome B
and_then (Ok p) f = f p.0 p.1
and_then (Err q) f = Err q

infixl 10 ◌>>=◌
abbrev pub ◌>>=◌ : {A B : Type 0} → Analysis A → (A → Analysis B) → Analysis B
a >>= f = λ s. and_then (a s) f

abbrev pub pure : {A : Type 0} → A → Analysis A
pure x = λ s. Ok (x, s)

abbrev pub refuse : {A : Type 0} → SqlError → Analysis A
refuse error = λ s. Err (error, s)

-- what needs nothing of what is known
abbrev pub lift : {A : Type 0} → Result A SqlError → Analysis A
lift (Ok x) = pure x
lift (Err error) = refuse error

-- ---- what a function that analyses ensures

abbrev pub Does : {A : Type 0} → Outcome A → Result A Stop → State → Type 0
Does outcome (Ok x) new = outcome ≡ Ok (x, new)
Does outcome (Err (Sql error)) new = outcome ≡ Err (error, new)
Does outcome (Err NoMemory) new = Unit {0}

-- ---- where an analysis starts

abbrev pub types_in : Option (List SqlType) → List SqlType
types_in None = []
types_in (Some types) = types

-- the types are declared exactly in PREPARE, which has a first reading
abbrev pub start : Option (List SqlType) → State
start declared = record { prepared = is_some declared; first = is_some declared; known = known_types (types_in declared); aggregates = [] }

-- a statement is read first only where it has a parameter without a declared type
abbrev pub begin : Option (List SqlType) → Bool → State
begin declared undeclared = record (start declared) { first = is_some declared && undeclared }

abbrev pub result_of : {A : Type 0} → Outcome A → Result A SqlError
result_of (Ok p) = Ok p.0
result_of (Err q) = Err q.0

-- what is known after an analysis, of a refused statement too
abbrev pub state_after : {A : Type 0} → Outcome A → State
state_after (Ok p) = p.1
state_after (Err q) = q.1
