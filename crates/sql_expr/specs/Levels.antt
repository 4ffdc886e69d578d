-- The weights of the levels of a command that are open at a place, the innermost first.
use Rattle.std.specs.Prelude.{ℕ, ◌+◌, ◌≤◌, ◌<◌, ◌≡◌, List, [], ◌∷◌, All, sum, drop}
use Rattle.sql_expr.specs.declared.levels.Levels.TheInside.{Inside}

-- a level is opened inside
abbrev pub opened : List ℕ → List ℕ
opened levels = 1 ∷ levels

-- the innermost level is closed, unless it is the command itself
abbrev pub closed : List ℕ → List ℕ
closed (inner ∷ level ∷ outer) = level ∷ outer
closed levels = levels

-- the innermost level weighs one more
abbrev pub weighed : List ℕ → List ℕ
weighed (level ∷ outer) = (level + 1) ∷ outer
weighed [] = []

-- the innermost level weighs one again
abbrev pub separated : List ℕ → List ℕ
separated (level ∷ outer) = 1 ∷ outer
separated [] = []

abbrev pub levels_of : Inside → List ℕ
levels_of s = s.weight ∷ drop s.free s.outer

-- each level weighs something, and the sum is that of the levels
pub record IsSound (s : Inside) : Type 0 where
  pub within : s.free ≤ 200
  pub inner : 0 < s.weight
  pub each : All (λ w. 0 < w) (drop s.free s.outer)
  pub total : s.sum ≡ s.weight + sum (drop s.free s.outer)
  pub small : s.sum ≤ 201
