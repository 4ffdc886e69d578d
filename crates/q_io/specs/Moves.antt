-- What a read and a write do, where the bytes are told.
use Rattle.std.specs.Prelude.{◌≡◌, ℕ, ◌<◌, ◌≤◌, ◌↔◌, List, [], ◌++◌, length, take, drop, Result, Ok, Err, IfOk}

-- the first n bytes left were moved to the front of the buffer, whose rest stays, as all of it does where the read failed
abbrev pub Moves : {E : Type 0} → List ℕ → Result ℕ E → List ℕ → List ℕ → Type 0
Moves left (Ok n) old new = new ≡ take n left ++ drop n old
Moves left (Err e) old new = new ≡ old

-- a read that doesn't fail gives nothing exactly where no byte is left
abbrev pub EndsWhereNoneLeft : {E : Type 0} → List ℕ → Result ℕ E → Type 0
EndsWhereNoneLeft left result = IfOk result (λ n. (n ≡ 0) ↔ (left ≡ []))

-- a write that doesn't fail takes from one byte to all that it is given
abbrev pub TakesSome : {E : Type 0} → Result ℕ E → List ℕ → Type 0
TakesSome result bytes = IfOk result (λ n. (0 < n) × (n ≤ length bytes))
