-- The newest savepoint of a name, found from the end of the stack.
use Rattle.std.proofs.Common.{◌≡◌, ℕ, zero, suc, ◌<◌, None, Some, true, false, List, [], ◌∷◌, length, drop, get_or, drop-cons, refl, arith}
use Rattle.std.specs.Str.{bytes_eq}
use Rattle.savepoints.specs.declared.transaction.Savepoint.{Savepoint}
use Rattle.savepoints.specs.Blocks.{newest}

-- a savepoint of another name adds none
pub newest_passed : {M : Type 0} (name : List ℕ) (stack : List (Savepoint M)) (i : ℕ) (s : Savepoint M) → i < length stack → s ≡ get_or stack i s → bytes_eq s.name name ≡ false → newest name (drop (suc i) stack) ≡ None → newest name (drop i stack) ≡ None
newest_passed name stack i s within at other none = rw (drop-cons stack i s within, ← at, none, other) refl

-- the last of the name is the newest
pub newest_found : {M : Type 0} (name : List ℕ) (stack : List (Savepoint M)) (i : ℕ) (s : Savepoint M) → i < length stack → s ≡ get_or stack i s → bytes_eq s.name name ≡ true → newest name (drop (suc i) stack) ≡ None → newest name stack ≡ Some (suc i, s.mark)
newest_found name [] i s within at same none = absurd (omega arith)
newest_found name (x ∷ stack) zero s within at same none = rw (none, ← at, same) refl
newest_found name (x ∷ stack) (suc i) s within at same none = rw (newest_found name stack i s (omega arith) at same none) refl
