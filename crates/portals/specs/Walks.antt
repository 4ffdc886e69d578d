-- Motion over a list of which the rows of some places are known.
use Rattle.std.specs.Prelude.{◌≡◌, ℕ, zero, suc, ◌+◌, ◌-◌, ◌≤◌, ◌^◌, nat_le, not, ◌&&◌, min, max, Bool, true, false, List, [], ◌∷◌, ◌++◌, length, Option, Some, None, IsSome, if◌then◌else◌, Result, Ok, MatchResult, IsOk, ⊤}
use Rattle.q_base.specs.declared.code.Code.{Code}
use Rattle.q_base.specs.declared.code.Code.TheVariants.{PortalCannotRun, ForwardOnly}
use Rattle.q_base.specs.declared.errors.SqlError.{SqlError}
use Rattle.q_base.specs.declared.errors.Stop.{Stop}
use Rattle.q_base.specs.Stops.{StopsBy}
use Rattle.q_value.specs.declared.value.Outcome.{Outcome}
use Rattle.q_value.specs.declared.value.Outcome.TheVariants.{Row, Fault}
use Rattle.q_value.specs.declared.value.Value.{Value}
use Rattle.holdable_store.specs.Buffer.{Buffer}
use Rattle.holdable_store.specs.Buffers.{outcome_at, without_before}
use Rattle.portals.specs.declared.cursor.Pulled.{Pulled}
use Rattle.portals.specs.declared.cursor.Pulled.TheVariants as pulled
use Rattle.portals.specs.declared.course.Course.{Course}
use Rattle.portals.specs.declared.cursor.Stretch.{Stretch}
use Rattle.portals.specs.Courses.{goes_back, needs, arrival, stretch}
use Rattle.portals.specs.Cursors.{Standing, left, list_of, next_place, failed, is_to_store}

-- the rows at the front of a list, up to its end or to its fault
abbrev pub rows_of : List Outcome → List (List Value)
rows_of [] = []
rows_of (Row row ∷ outcomes) = row ∷ rows_of outcomes
rows_of (Fault code ∷ outcomes) = []

-- the fault that ends a list
abbrev pub fault_of : List Outcome → Option Code
fault_of [] = None
fault_of (Row row ∷ outcomes) = fault_of outcomes
fault_of (Fault code ∷ outcomes) = Some code

-- the place behind the last row of a cursor's list
abbrev pub end_of : {F P : Type 0} → (F → List Outcome) → Standing F P → ℕ
end_of rest c = c.kept.first + length (rows_of (list_of rest c))

-- what one pull gives, and what it leaves
abbrev pub Pulls : {F P : Type 0} → (F → List Outcome) → Standing F P → Pulled → Standing F P → Type 0
Pulls rest old pulled.Row new =
    (row : List Value) × (left rest old.feed ≡ Row row ∷ left rest new.feed) × IsSome new.feed
    × (new ≡ record old { feed = new.feed; kept = record old.kept { kept = old.kept.kept ++ Row row ∷ [] }; reach = old.reach + 1 })
Pulls rest old pulled.End new =
    (left rest old.feed ≡ []) × (new ≡ record old { feed = None; reach = next_place old.feed old.reach })
Pulls rest old (pulled.Fault code) new =
    (fault_of (left rest old.feed) ≡ Some code) × (rows_of (left rest old.feed) ≡ []) × (new ≡ failed (record old { reach = old.reach + 1 }))

-- the cursor pulled up to a place, or to the place behind its last row
abbrev pub PullsTo : {F P : Type 0} → (F → List Outcome) → ℕ → Standing F P → Option Code → Standing F P → Type 0
PullsTo rest goal old None new =
    (list_of rest new ≡ list_of rest old)
    × (new.kept.first ≡ old.kept.first)
    × (new ≡ record old { feed = new.feed; kept = new.kept; reach = max old.reach (min goal (end_of rest old)) })
    × (end_of rest old ≤ goal → fault_of (list_of rest old) ≡ None)
PullsTo rest goal old (Some code) new =
    (fault_of (list_of rest old) ≡ Some code) × (end_of rest old ≤ goal) × (new ≡ failed (record old { reach = end_of rest old }))

-- the last place known to be a row's: that of the last row where all was pulled
abbrev pub last_known : {F : Type 0} → Option F → ℕ → ℕ
last_known (Some feed) reach = reach
last_known None reach = reach - 1

-- a place up to which is pulled, as a number of 64 bits
abbrev pub goal_of : Option ℕ → ℕ
goal_of None = 2 ^ 64 - 1
goal_of (Some place) = min place (2 ^ 64 - 1)

-- a course needs the outcome behind the last row
abbrev pub passes : Option ℕ → ℕ → Bool
passes None end = true
passes (Some place) end = nat_le end place

-- the greatest place that a course walks through
abbrev pub walked : Option ℕ → ℕ → ℕ
walked None end = end
walked (Some place) end = min place end

-- the fault of the list, where the course reaches it
abbrev pub fault_met : {F P : Type 0} → Bool → ℕ → Option Code → Standing F P → Option (SqlError × Standing F P)
fault_met true end (Some code) c = Some (record { code = code; args = [] }, failed (record c { reach = end }))
fault_met true end None c = None
fault_met false end fault c = None

-- why a course is refused, with the cursor after it, which is failed: it was so before, or it doesn't scroll and the course
-- goes back, or the course reaches the fault of the list
abbrev pub refusal_of : {F P : Type 0} → List ℕ → Course → Bool → ℕ → Option Code → Standing F P → Option (SqlError × Standing F P)
refusal_of name course fetching end fault c =
    if c.failed then Some (record { code = PortalCannotRun; args = name ∷ [] }, c)
    else if not c.scroll && goes_back course fetching c.position (end - 1) then Some (record { code = ForwardOnly; args = [] }, failed c)
    else fault_met (passes (needs course c.position) end) end fault c

-- the cursor after a course that isn't refused: its list is the same
pub record Arrives {F P : Type 0} (rest : F → List Outcome) (course : Course) (old new : Standing F P) : Type 0 where
  pub standing : new ≡ record old { feed = new.feed; kept = new.kept; position = arrival course old.position (end_of rest old); reach = max old.reach (walked (needs course old.position) (end_of rest old)) }
  pub list : list_of rest new ≡ list_of rest old
  pub first : new.kept.first ≡ old.kept.first

-- a course of a cursor: the places of its rows, or its refusal
abbrev pub Walks : {F P : Type 0} → (F → List Outcome) → List ℕ → Course → Bool → Standing F P → Result Stretch Stop → Standing F P → Type 0
Walks rest name course fetching old outcome new =
    MatchResult outcome
    (λ places. (refusal_of name course fetching (end_of rest old) (fault_of (list_of rest old)) old ≡ None)
    × (places ≡ stretch course old.position (arrival course old.position (end_of rest old)) (end_of rest old - 1))
    × Arrives rest course old new)
    (StopsBy (λ e. refusal_of name course fetching (end_of rest old) (fault_of (list_of rest old)) old ≡ Some (e, new)))

-- the row of a place, where it is kept
abbrev pub row_at : Buffer → ℕ → List (List Value)
row_at kept place = row_of (outcome_at kept place) where
  row_of : Option Outcome → List (List Value)
  row_of None = []
  row_of (Some (Row row)) = row ∷ []
  row_of (Some (Fault code)) = []

-- the rows of so many places, from one on upwards or downwards
abbrev pub rows_up : Buffer → ℕ → ℕ → List (List Value)
rows_up kept place zero = []
rows_up kept place (suc count) = row_at kept place ++ rows_up kept (place + 1) count

abbrev pub rows_down : Buffer → ℕ → ℕ → List (List Value)
rows_down kept place zero = []
rows_down kept place (suc count) = row_at kept place ++ rows_down kept (place - 1) count

abbrev pub rows_at : Buffer → Stretch → List (List Value)
rows_at kept places = if places.downwards then rows_down kept places.start places.count else rows_up kept places.start places.count

-- a cursor without the rows that it can't reach again
abbrev pub forgetting : {F P : Type 0} → Standing F P → Standing F P
forgetting c = if c.scroll then c else record c { kept = without_before c.position c.kept }

-- a course whose rows are given: they stand at its places of the list, of which the cursor keeps the front
abbrev pub Fetches : {F P : Type 0} → (F → List Outcome) → List ℕ → Course → Standing F P → Result (List (List Value)) Stop → Standing F P → Type 0
Fetches {F} {P} rest name course old outcome new =
    MatchResult outcome
    (λ rows. (places : Stretch) × (moved : Standing F P) × Walks rest name course true old (Ok places) moved × (rows ≡ rows_at moved.kept places) × (new ≡ forgetting moved))
    (StopsBy (λ e. refusal_of name course true (end_of rest old) (fault_of (list_of rest old)) old ≡ Some (e, new)))

-- a course whose rows are counted
abbrev pub Counts : {F P : Type 0} → (F → List Outcome) → List ℕ → Course → Standing F P → Result ℕ Stop → Standing F P → Type 0
Counts {F} {P} rest name course old outcome new =
    MatchResult outcome
    (λ count. (places : Stretch) × (moved : Standing F P) × Walks rest name course false old (Ok places) moved × (count ≡ places.count) × (new ≡ forgetting moved))
    (StopsBy (λ e. refusal_of name course false (end_of rest old) (fault_of (list_of rest old)) old ≡ Some (e, new)))

-- a cursor that the end of its transaction stores is pulled to the end of its list, far beyond which the given place lies; the
-- fault of the list refuses it
abbrev pub Stores : {F P : Type 0} → (F → List Outcome) → Standing F P → Result ⊤ Stop → Standing F P → Type 0
Stores rest old outcome new =
    (is_to_store old ≡ true → MatchResult outcome (λ _. PullsTo rest (2 ^ 64 - 1) old None new) (StopsBy (λ e. PullsTo rest (2 ^ 64 - 1) old (Some e.code) new × (e.args ≡ []))))
    × (is_to_store old ≡ false → IsOk outcome × (new ≡ old))
