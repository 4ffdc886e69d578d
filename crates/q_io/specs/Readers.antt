-- What the adapters of std's readers and writers hold.
use Rattle.std.specs.Prelude.{ℕ}

-- a reader or a writer, and how often it failed
pub record Counted (R : Type 0) : Type 0 where
  pub inner : R
  pub faults : ℕ
