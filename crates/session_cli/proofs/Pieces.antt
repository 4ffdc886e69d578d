-- Bytes that are written piece by piece.
use Rattle.std.proofs.Common.{◌≡◌, ℕ, ◌+◌, Option, None, Some, List, [], ◌++◌, take, drop, sym, ap, subst, ◌∙◌, append_assoc, arith}
use Rattle.std.proofs.lemmas.List.{take-append-drop, take-take, drop-take, append-nil}
use Rattle.std.specs.Io.KnownBytes.{Appends, Keeps}

pub Appends-then : (a b c : Option (List ℕ)) (xs ys : List ℕ) → Appends a b xs → Appends b c ys → Appends a c (xs ++ ys)
Appends-then None b c xs ys h k = tt
Appends-then (Some base) (Some bytes) (Some all) xs ys h k = k ∙ (ap (λ l. l ++ ys) h ∙ append_assoc base xs ys)
Appends-then (Some base) (Some bytes) None xs ys h k = k
Appends-then (Some base) None c xs ys h k = absurd h

pub Appends-keeps : (a b c : Option (List ℕ)) (xs : List ℕ) → Appends a b xs → Keeps b c → Appends a c xs
Appends-keeps None b c xs h k = tt
Appends-keeps (Some base) (Some bytes) (Some all) xs h k = k ∙ h
Appends-keeps (Some base) (Some bytes) None xs h k = k
Appends-keeps (Some base) None c xs h k = absurd h

pub Appends-none : (a : Option (List ℕ)) → Appends a a []
Appends-none None = tt
Appends-none (Some base) = sym (append-nil base)

pub Keeps-appends : (a b : Option (List ℕ)) → Keeps a b → Appends a b []
Keeps-appends None b h = tt
Keeps-appends (Some base) (Some bytes) h = h ∙ sym (append-nil base)
Keeps-appends (Some base) None h = h

-- the first bytes, and then the first of those that are left
pub taken_more : (bytes : List ℕ) (done count : ℕ) → take done bytes ++ take count (drop done bytes) ≡ take (done + count) bytes
taken_more bytes done count =
    sym (λ i. take-take done (done + count) bytes (omega arith) i ++ drop-take done count bytes i) ∙ take-append-drop done (take (done + count) bytes)

-- a front of what a piece appended after the first bytes
pub written_more : (a b c : Option (List ℕ)) (bytes rest : List ℕ) (done count : ℕ) → Appends a b (take done bytes) → rest ≡ drop done bytes → Appends b c (take count rest) → Appends a c (take (done + count) bytes)
written_more a b c bytes rest done count h e k =
    subst (λ l. Appends a c l) (taken_more bytes done count) (Appends-then a b c (take done bytes) (take count (drop done bytes)) h (subst (λ l. Appends b c (take count l)) e k))
