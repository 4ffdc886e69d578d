-- What the sources and the sink in memory hold, and what a call makes of it.
use Rattle.std.specs.Prelude.{ℕ, ◌+◌, ◌-◌, ◌^◌, min, List, ◌++◌, take, drop, Option, Some, None, Result, Ok, Err, if◌then◌else◌, nat_lt, Contains, IsSomeAnd}
use Rattle.q_io.specs.Faults.{raised}

-- bytes that are left, given at most `piece` in a call
pub record Supply : Type 0 where
  pub left : List ℕ
  pub piece : ℕ

-- bytes that were written, with room for so many, at most `piece` of them in a call
pub record Storage : Type 0 where
  pub written : List ℕ
  pub room : ℕ
  pub piece : ℕ

-- the calls that are to fail, and the number of the call that comes; there is none after the last that a list can name
pub record Schedule : Type 0 where
  pub fails : List ℕ
  pub call : Option ℕ

-- a source whose listed calls fail
pub record SourceState : Type 0 where
  pub left : List ℕ
  pub piece : ℕ
  pub fails : List ℕ
  pub call : Option ℕ
  pub faults : ℕ

-- a sink with room for so many bytes, at most `piece` taken in a call, whose listed calls fail
pub record SinkState : Type 0 where
  pub written : List ℕ
  pub room : ℕ
  pub piece : ℕ
  pub fails : List ℕ
  pub call : Option ℕ
  pub faults : ℕ

-- how many bytes a call moves: what it is asked for and what there is, but at most the piece
abbrev pub moved_len : ℕ → ℕ → ℕ → ℕ
moved_len piece asked there = min piece (min asked there)

-- the number after a call's
abbrev pub number_after : Option ℕ → Option ℕ
number_after None = None
number_after (Some call) = if nat_lt call (2 ^ 64 - 1) then Some (call + 1) else None

-- the list names the call
abbrev pub IsListed : List ℕ → Option ℕ → Type 0
IsListed fails call = IsSomeAnd call (Contains fails)

-- the source after a read with that result
abbrev pub after_read : {E : Type 0} → SourceState → Result ℕ E → SourceState
after_read s (Ok n) = record s { left = drop n s.left; call = number_after s.call }
after_read s (Err e) = record s { call = number_after s.call; faults = raised s.faults }

-- the sink after a write of the bytes with that result
abbrev pub after_write : {E : Type 0} → SinkState → List ℕ → Result ℕ E → SinkState
after_write s bytes (Ok n) = record s { written = s.written ++ take n bytes; call = number_after s.call }
after_write s bytes (Err e) = record s { call = number_after s.call; faults = raised s.faults }
