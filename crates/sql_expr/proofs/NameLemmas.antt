-- A look-up in a table of words, as a test of each word.
use Rattle.std.proofs.Common.{◌≡◌, ℕ, Bool, true, false, cond, List, [], ◌∷◌, Option, Some, None, map, nat_cmp, refl, ◌||◌}
use Rattle.std.specs.Prelude.{is_some}
use Rattle.std.specs.Option.{option_copied}
use Rattle.std.specs.List.{list_any}
use Rattle.std.specs.Str.{bytes_eq}
use Rattle.std.specs.Cmp.Lexicographic.{slice_cmp}
use Rattle.std.specs.Borrow.{Bor}
use Rattle.std.proofs.lemmas.Map.Text.{is_eq-slice_cmp}
use Rattle.q_base.specs.Tables.{value_of}

pub is_some-copied : {A : Type 0} (found : Option (Bor A)) → is_some found ≡ is_some (option_copied found)
is_some-copied None = refl
is_some-copied (Some a) = refl

found-or : {V : Type 0} (same : Bool) (v : V) (rest : Option V) (other : Bool) → is_some rest ≡ other → is_some (cond same (Some v) rest) ≡ (same || other)
found-or true v rest other e = refl
found-or false v rest other e = e

pub value_of-words : (word : Bor (List ℕ)) (rows : List (Bor (List ℕ) × Unit {0}))
    → is_some (value_of (λ a b. slice_cmp nat_cmp a.now b.now) word rows) ≡ list_any (λ known. bytes_eq known word.now) (map (λ row. row.0.now) rows)
value_of-words word [] = refl
value_of-words word (row ∷ rows) = rw (is_eq-slice_cmp row.0.now word.now) (found-or (bytes_eq row.0.now word.now) row.1 _ _ (value_of-words word rows))
