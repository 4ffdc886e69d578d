use Rattle.std.specs.Prelude.{ℕ, ◌+◌, ◌-◌, Option, None, if◌then◌else◌, nat_lt, min, length, drop, slice_get}
use Rattle.q_value.specs.declared.value.Outcome.{Outcome}
use Rattle.holdable_store.specs.Buffer.{Buffer}

-- the outcome of a position, where it is kept
abbrev pub outcome_at : Buffer → ℕ → Option Outcome
outcome_at buffer position = if nat_lt position buffer.first then None else slice_get buffer.kept (position - buffer.first)

-- the position after the last kept one
abbrev pub next_position : Buffer → ℕ
next_position buffer = buffer.first + length buffer.kept

-- the buffer without the outcomes of the positions before one, of which there are no more than are kept
abbrev pub without_before : ℕ → Buffer → Buffer
without_before position buffer =
    let gone = min (position - buffer.first) (length buffer.kept) in
    record { first = buffer.first + gone; kept = drop gone buffer.kept }
