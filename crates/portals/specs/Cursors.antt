-- A cursor as contracts see it, and the list that it is on.
use Rattle.std.specs.Prelude.{◌≡◌, ℕ, ◌+◌, ◌-◌, ◌≤◌, ◌^◌, max, Bool, true, false, List, [], ◌∷◌, ◌++◌, slice_get, nat_le, ◌==◌, if◌then◌else◌, Option, Some, None, is_some, not, ◌&&◌, ⊤}
use Rattle.std.specs.List.{list_any}
use Rattle.q_base.specs.declared.ids.ObjId.{ObjId}
use Rattle.q_value.specs.declared.value.Outcome.{Outcome}
use Rattle.q_value.specs.declared.value.Outcome.TheVariants.{Row, Fault}
use Rattle.holdable_store.specs.Buffer.{Buffer}
use Rattle.holdable_store.specs.Buffers.{next_position}

-- where a cursor stands: what it has left to pull, what it keeps, its position and its reach
pub record Standing (F P : Type 0) : Type 0 where
  pub feed : Option F
  pub pin : Option P
  pub kept : Buffer
  pub position : ℕ
  pub reach : ℕ
  pub scroll : Bool
  pub hold : Bool
  pub failed : Bool
  pub level : Option ℕ
  pub uses : List ObjId

-- none is a fault
abbrev pub AllRows : List Outcome → Type 0
AllRows [] = ⊤
AllRows (Row row ∷ outcomes) = AllRows outcomes
AllRows (Fault code ∷ outcomes) = ⊥

-- the place of the next outcome to be pulled, or the end where all was pulled
abbrev pub next_place : {F : Type 0} → Option F → ℕ → ℕ
next_place (Some feed) reach = reach + 1
next_place None reach = reach

-- what is kept and what was pulled fit together
pub record IsSound {F P : Type 0} (c : Standing F P) : Type 0 where
  pub behind : c.position ≤ c.reach
  pub within : next_place c.feed c.reach ≤ 2 ^ 62 + 1
  pub rows : AllRows c.kept.kept
  pub early : c.kept.first ≤ max 1 c.position
  pub start : c.scroll ≡ true → c.kept.first ≡ 1
  pub next : c.failed ≡ false → next_position c.kept ≡ next_place c.feed c.reach
  pub done : c.failed ≡ true → c.feed ≡ None

-- what a feed has left, where not all was pulled
abbrev pub left : {F : Type 0} → (F → List Outcome) → Option F → List Outcome
left rest None = []
left rest (Some feed) = rest feed

-- the list of a cursor, from the first place on that it keeps
abbrev pub list_of : {F P : Type 0} → (F → List Outcome) → Standing F P → List Outcome
list_of rest c = c.kept.kept ++ left rest c.feed

-- a cursor of this transaction, at a level of savepoints or a deeper one
abbrev pub is_within : ℕ → Option ℕ → Bool
is_within level None = false
is_within level (Some own) = nat_le level own

-- a level, once that savepoint is released: it and deeper ones are the level before it
abbrev pub released : ℕ → Option ℕ → Option ℕ
released level None = None
released level (Some own) = if nat_le level own then Some (level - 1) else Some own

-- a cursor of this transaction that isn't failed uses the table
abbrev pub holds_back : {F P : Type 0} → ObjId → Standing F P → Bool
holds_back table c = is_some c.level && not c.failed && list_any (λ id. id.0 == table.0) c.uses

-- the end of this transaction stores the cursor
abbrev pub is_to_store : {F P : Type 0} → Standing F P → Bool
is_to_store c = is_some c.level && c.hold && not c.failed

-- a cursor that answers nothing more
abbrev pub failed : {F P : Type 0} → Standing F P → Standing F P
failed c = record c { feed = None; kept = record { first = 1; kept = [] }; failed = true }

-- the cursors of a session in order of declaration, by their names, and the pins that wait to be given back
pub record Cursors (F P : Type 0) : Type 0 where
  pub names : List (List ℕ)
  pub cursors : List (Standing F P)
  pub ended : List P

-- each cursor that may still pull can be asked
abbrev pub AllFit : {F P : Type 0} → (F → Type 0) → List (Standing F P) → Type 0
AllFit {F} {P} fits cursors = (at : ℕ) (c : Standing F P) (feed : F) → slice_get cursors at ≡ Some c → c.feed ≡ Some feed → fits feed
