-- Numbers that end at a ceiling.
use Rattle.std.specs.Prelude.{ℕ, min}

-- a number, and the ceiling in place of a greater one
abbrev pub capped : ℕ → ℕ
capped number = min number 1000000000000000
