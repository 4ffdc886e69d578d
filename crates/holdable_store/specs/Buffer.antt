use Rattle.std.specs.Prelude.{ℕ, List}
use Rattle.q_value.specs.declared.value.Outcome.{Outcome}

-- outcomes at consecutive positions, and the position of the first of them
pub record Buffer : Type 0 where
  pub first : ℕ
  pub kept : List Outcome
