use Rattle.std.proofs.Common.{◌≡◌, refl, sym, ap, ◌∙◌, ℕ, ◌==◌, ◌+◌, cond, Bool, true, false, not, List, [], ◌∷◌, ◌++◌, length, None, Some, arith}
use Rattle.q_base.specs.declared.ids.SlotId.{SlotId}
use Rattle.q_value.specs.declared.value.Value.{Value}
use Rattle.row_versions.specs.State.{row_of, replaced, without}
use Rattle.std.proofs.lemmas.List.{append_assoc}
use Rattle.dml.specs.Changes.{Stored, numbered, replaced_each}

-- a slot without a row has none to replace or to drop
pub replaced_none : (slot : ℕ) (row : List Value) (stored : Stored) → row_of slot stored ≡ None → replaced slot row stored ≡ stored
replaced_none slot row [] none = refl
replaced_none slot row (old ∷ more) none = at (old.0 == slot) (replaced_none slot row more) none
  where
    at : (b : Bool) → (row_of slot more ≡ None → replaced slot row more ≡ more) → cond b (Some old.1) (row_of slot more) ≡ None → cond b (slot, row) old ∷ replaced slot row more ≡ old ∷ more
    at true later e = absurd (cc)
    at false later e = ap (λ (rest : Stored). old ∷ rest) (later e)

pub without_none : (slot : ℕ) (stored : Stored) → row_of slot stored ≡ None → without slot stored ≡ stored
without_none slot [] none = refl
without_none slot (old ∷ more) none = at (old.0 == slot) (without_none slot more) none
  where
    at : (b : Bool) → (row_of slot more ≡ None → without slot more ≡ more) → cond b (Some old.1) (row_of slot more) ≡ None → cond (not b) (old ∷ without slot more) (without slot more) ≡ old ∷ more
    at true later e = absurd (cc)
    at false later e = ap (λ (rest : Stored). old ∷ rest) (later e)

-- one more slot and its row stand behind the others
pub numbered_more : (slots : List SlotId) (rows : List (List Value)) (slot : SlotId) (row : List Value) → length slots ≡ length rows → numbered (slots ++ slot ∷ []) (rows ++ row ∷ []) ≡ numbered slots rows ++ (slot.0, row) ∷ []
numbered_more [] [] slot row same = refl
numbered_more [] (r ∷ rows) slot row same = absurd (omega (arith, same))
numbered_more (s ∷ slots) [] slot row same = absurd (omega (arith, same))
numbered_more (s ∷ slots) (r ∷ rows) slot row same = ap (λ (rest : Stored). (s.0, r) ∷ rest) (numbered_more slots rows slot row (omega (arith, same)))

-- a loop that takes the elements of a list one by one
pub one_taken : {X : Type 0} (before after : ℕ) (items rest : List X) (x : X) → items ≡ x ∷ rest → before ≡ length items → after + 1 ≡ before → after ≡ length rest
one_taken {X} before after items rest x steps was gone = let short = ap (λ (xs : List X). length xs) steps in omega (arith, short)

pub taken_on : {X : Type 0} (taken items rest all : List X) (x : X) → items ≡ x ∷ rest → taken ++ items ≡ all → (taken ++ x ∷ []) ++ rest ≡ all
taken_on {X} taken items rest all x steps so_far = append_assoc taken (x ∷ []) rest ∙ ap (λ (xs : List X). taken ++ xs) (sym steps) ∙ so_far

-- no slots are left
pub replaced_no_more : (rows : List (List Value)) (stored : Stored) → replaced_each rows [] stored ≡ stored
replaced_no_more [] stored = refl
replaced_no_more (row ∷ rows) stored = refl
