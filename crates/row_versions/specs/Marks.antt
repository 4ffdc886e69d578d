use Rattle.std.specs.Prelude.{ℕ}

-- a state to which a rollback may go back: how many changes could be taken back, and which snapshot was the newest
pub record Mark : Type 0 where
  pub changes : ℕ
  pub moment : ℕ
