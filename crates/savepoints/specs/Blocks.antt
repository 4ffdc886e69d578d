use Rattle.std.specs.Prelude.{◌≡◌, ℕ, suc, ◌≤◌, Bool, true, false, Option, None, Some, is_some, Result, Ok, Err, List, [], ◌∷◌, ◌++◌, length, take, nat_lt, if◌then◌else◌, codes}
use Rattle.std.specs.Str.{bytes_eq}
use Rattle.q_base.specs.declared.code.Code.TheVariants.{OnlyInBlock, UnknownSavepoint, LimitExceeded}
use Rattle.q_base.specs.declared.errors.SqlError.{SqlError}
use Rattle.savepoints.specs.declared.transaction.Block.{Block}
use Rattle.savepoints.specs.declared.transaction.Block.TheVariants as block
use Rattle.savepoints.specs.declared.transaction.Savepoint.{Savepoint}

-- the block of a session: its status, the mark of its begin, and its savepoints, the newest last
pub record Blocks (M : Type 0) : Type 0 where
  pub status : Block
  pub begun : Option M
  pub stack : List (Savepoint M)

abbrev pub is_open : Block → Bool
is_open block.Idle = false
is_open block.Active = true
is_open block.Failed = true

-- a block that is open has a begin, and one that isn't has no savepoints
pub record IsProper {M : Type 0} (state : Blocks M) : Type 0 where
  pub begins : is_some state.begun ≡ is_open state.status
  pub outside : is_open state.status ≡ false → state.stack ≡ []
  pub few : length state.stack ≤ 1024

-- BEGIN: outside a block it opens one
abbrev pub begun : {M : Type 0} → M → Blocks M → Blocks M
begun mark state = if is_open state.status then state else record state { status = block.Active; begun = Some mark }

-- the status after a command was refused
abbrev pub failed : Block → Block
failed block.Idle = block.Idle
failed block.Active = block.Failed
failed block.Failed = block.Failed

-- what was found above a savepoint, or else the savepoint itself, if it has the name
abbrev pub or_this : {M : Type 0} → List ℕ → Savepoint M → Option (ℕ × M) → Option (ℕ × M)
or_this name savepoint None = if bytes_eq savepoint.name name then Some (1, savepoint.mark) else None
or_this name savepoint (Some found) = Some (suc found.0, found.1)

-- the level and the mark of the newest savepoint of a name
abbrev pub newest : {M : Type 0} → List ℕ → List (Savepoint M) → Option (ℕ × M)
newest name [] = None
newest name (savepoint ∷ stack) = or_this name savepoint (newest name stack)

-- ROLLBACK TO the savepoint of a level
abbrev pub returned : {M : Type 0} → Option (ℕ × M) → Blocks M → Blocks M
returned None state = state
returned (Some found) state = record state { status = block.Active; stack = take found.0 state.stack }

abbrev pub outside_block : List ℕ → SqlError
outside_block command = record { code = OnlyInBlock; args = command ∷ [] }

-- SAVEPOINT
abbrev pub saved : {M : Type 0} → List ℕ → M → Blocks M → Result (Blocks M) SqlError
saved name mark state =
    if is_open state.status
    then (if nat_lt (length state.stack) 1024 then Ok (record state { stack = state.stack ++ record { name = name; mark = mark } ∷ [] }) else Err (record { code = LimitExceeded; args = [] }))
    else Err (outside_block (codes "SAVEPOINT"))

-- the level that was found, or the refusal of a name that no savepoint has
abbrev pub known_level : {M : Type 0} → List ℕ → Option (ℕ × M) → Result ℕ SqlError
known_level name None = Err (record { code = UnknownSavepoint; args = name ∷ [] })
known_level name (Some found) = Ok found.0

-- the level that RELEASE drops
abbrev pub release_level : {M : Type 0} → List ℕ → Blocks M → Result ℕ SqlError
release_level name state = if is_open state.status then known_level name (newest name state.stack) else Err (outside_block (codes "RELEASE SAVEPOINT"))
