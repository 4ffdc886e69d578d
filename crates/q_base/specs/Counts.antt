use Rattle.std.specs.Prelude.{ℕ}

-- how many analyses, plans and pulls were made
pub record Counts : Type 0 where
  pub analyses : ℕ
  pub plans : ℕ
  pub pulls : ℕ
