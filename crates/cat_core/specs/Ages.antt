use Rattle.std.specs.Prelude.{◌≡◌, ◌≢◌, ℕ, ◌+◌, ◌<◌, ◌≤◌, List, [], ◌∷◌, length, Option, Some, None, slice_index_or}

-- the numbers ascend from low on, and all are below high
abbrev pub AreBetween : {X : Type 0} → (X → ℕ) → ℕ → List X → ℕ → Type 0
AreBetween number low [] high = low ≤ high
AreBetween number low (x ∷ xs) high = (low ≤ number x) × AreBetween number (number x + 1) xs high

-- where an element of that number stands, or that there is none
abbrev pub IsPlace : {X : Type 0} → (X → ℕ) → ℕ → List X → Option ℕ → Type 0
IsPlace {X} number n xs None = (i : ℕ) (d : X) → i < length xs → number (slice_index_or xs i d) ≢ n
IsPlace {X} number n xs (Some i) = (i < length xs) × ((d : X) → number (slice_index_or xs i d) ≡ n)
