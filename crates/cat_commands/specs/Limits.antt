-- Limits of numbers.
use Rattle.std.specs.Prelude.{ℕ, ◌+◌, nat_lt, Result, Ok, Err, if◌then◌else◌}
use Rattle.q_base.specs.declared.code.Code.TheVariants.{LimitExceeded}
use Rattle.q_base.specs.declared.errors.SqlError.{SqlError}
use Rattle.cat_commands.specs.Names.{Checked, plain}

-- the next id, where with so many more there are 65,536 objects and schemas at most
abbrev pub room_for : ℕ → ℕ → Result ℕ SqlError
room_for next count = if nat_lt 65537 (next + count) then Err (plain LimitExceeded) else Ok next

abbrev pub within : ℕ → ℕ → Checked
within most count = if nat_lt most count then Err (plain LimitExceeded) else Ok tt
