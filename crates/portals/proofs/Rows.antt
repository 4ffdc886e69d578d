-- The rows and the fault of a list that begins with rows.
use Rattle.std.proofs.Common.{◌≡◌, ℕ, zero, suc, ◌+◌, ◌-◌, ◌<◌, List, [], ◌∷◌, ◌++◌, length, drop, refl, ◌∙◌, ap, arith}
use Rattle.q_value.specs.declared.value.Outcome.{Outcome}
use Rattle.q_value.specs.declared.value.Outcome.TheVariants.{Row, Fault}
use Rattle.q_value.specs.declared.value.Value.{Value}
use Rattle.portals.specs.Cursors.{AllRows}
use Rattle.holdable_store.specs.Buffer.{Buffer}
use Rattle.portals.specs.Walks.{rows_of, fault_of, row_at, rows_up, rows_down}

pub AllRows-push : (outcomes : List Outcome) (row : List Value) → AllRows outcomes → AllRows (outcomes ++ Row row ∷ [])
AllRows-push [] row rows = tt
AllRows-push (Row first ∷ outcomes) row rows = AllRows-push outcomes row rows
AllRows-push (Fault code ∷ outcomes) row rows = elim rows [ ]

pub AllRows-drop : (n : ℕ) (outcomes : List Outcome) → AllRows outcomes → AllRows (drop n outcomes)
AllRows-drop zero [] rows = rows
AllRows-drop (suc n) [] rows = rows
AllRows-drop zero (outcome ∷ outcomes) rows = rows
AllRows-drop (suc n) (Row first ∷ outcomes) rows = AllRows-drop n outcomes rows
AllRows-drop (suc n) (Fault code ∷ outcomes) rows = elim rows [ ]

pub length-push : (outcomes : List Outcome) (row : List Value) → length (outcomes ++ Row row ∷ []) ≡ length outcomes + 1
length-push [] row = refl
length-push (first ∷ outcomes) row = let more : length (outcomes ++ Row row ∷ []) ≡ length outcomes + 1 = length-push outcomes row in omega arith

pub append-push : (outcomes : List Outcome) (row : List Value) (more : List Outcome) → (outcomes ++ Row row ∷ []) ++ more ≡ outcomes ++ Row row ∷ more
append-push [] row more = refl
append-push (first ∷ outcomes) row more = ap (λ others. first ∷ others) (append-push outcomes row more)

pub rows-after : (outcomes more : List Outcome) → AllRows outcomes → length (rows_of (outcomes ++ more)) ≡ length outcomes + length (rows_of more)
rows-after [] more rows = omega arith
rows-after (Row first ∷ outcomes) more rows = let others : length (rows_of (outcomes ++ more)) ≡ length outcomes + length (rows_of more) = rows-after outcomes more rows in omega arith
rows-after (Fault code ∷ outcomes) more rows = elim rows [ ]

pub fault-after : (outcomes more : List Outcome) → AllRows outcomes → fault_of (outcomes ++ more) ≡ fault_of more
fault-after [] more rows = refl
fault-after (Row first ∷ outcomes) more rows = fault-after outcomes more rows
fault-after (Fault code ∷ outcomes) more rows = elim rows [ ]

append-joined : {A : Type 0} (xs ys zs : List A) → (xs ++ ys) ++ zs ≡ xs ++ (ys ++ zs)
append-joined [] ys zs = refl
append-joined (x ∷ xs) ys zs = ap (λ others. x ∷ others) (append-joined xs ys zs)

up-next : (kept : Buffer) (place count : ℕ) → 0 < count → row_at kept place ++ rows_up kept (place + 1) (count - 1) ≡ rows_up kept place count
up-next kept place zero some = absurd (omega arith)
up-next kept place (suc n) some = let same : suc n - 1 ≡ n = omega arith in ap (λ m. row_at kept place ++ rows_up kept (place + 1) m) same

down-next : (kept : Buffer) (place count : ℕ) → 0 < count → row_at kept place ++ rows_down kept (place - 1) (count - 1) ≡ rows_down kept place count
down-next kept place zero some = absurd (omega arith)
down-next kept place (suc n) some = let same : suc n - 1 ≡ n = omega arith in ap (λ m. row_at kept place ++ rows_down kept (place - 1) m) same

-- one more row, upwards and downwards
pub up-turn : (kept : Buffer) (start count step : ℕ) (rows later all : List (List Value)) → step < count → later ≡ rows ++ row_at kept (start + step)
    → rows ++ rows_up kept (start + step) (count - step) ≡ all → later ++ rows_up kept (start + (step + 1)) (count - (step + 1)) ≡ all
up-turn kept start count step rows later all lt is before =
    let place : start + (step + 1) ≡ start + step + 1 = omega arith in
    let fewer : count - (step + 1) ≡ count - step - 1 = omega arith in
    (λ i. is i ++ rows_up kept (place i) (fewer i)) ∙ (append-joined rows (row_at kept (start + step)) _ ∙ (ap (λ more. rows ++ more) (up-next kept (start + step) (count - step) (omega arith)) ∙ before))

pub down-turn : (kept : Buffer) (start count step : ℕ) (rows later all : List (List Value)) → step < count → later ≡ rows ++ row_at kept (start - step)
    → rows ++ rows_down kept (start - step) (count - step) ≡ all → later ++ rows_down kept (start - (step + 1)) (count - (step + 1)) ≡ all
down-turn kept start count step rows later all lt is before =
    let place : start - (step + 1) ≡ start - step - 1 = omega arith in
    let fewer : count - (step + 1) ≡ count - step - 1 = omega arith in
    (λ i. is i ++ rows_down kept (place i) (fewer i)) ∙ (append-joined rows (row_at kept (start - step)) _ ∙ (ap (λ more. rows ++ more) (down-next kept (start - step) (count - step) (omega arith)) ∙ before))
