-- A look-up in the table of names of types, as the first row of the name.
use Rattle.std.proofs.Common.{◌≡◌, ℕ, Bool, cond, List, [], ◌∷◌, Option, Some, map, nat_cmp, refl, ap}
use Rattle.std.specs.Str.{bytes_eq}
use Rattle.std.specs.Cmp.Lexicographic.{slice_cmp}
use Rattle.std.specs.Borrow.{Bor}
use Rattle.std.proofs.lemmas.Map.Text.{is_eq-slice_cmp}
use Rattle.q_base.specs.Tables.{value_of}
use Rattle.q_value.specs.declared.value.SqlType.{SqlType}
use Rattle.expr_analysis.specs.Types.{NamedType, type_in}

abbrev pub named : Bor (List ℕ) × SqlType → NamedType
named row = (row.0.now, row.1)

by_test : {V : Type 0} (same : Bool) (v : V) (rest other : Option V) → rest ≡ other → cond same (Some v) rest ≡ cond same (Some v) other
by_test same v rest other e = ap (λ r. cond same (Some v) r) e

pub value_of-types : (name : Bor (List ℕ)) (rows : List (Bor (List ℕ) × SqlType))
    → value_of (λ a b. slice_cmp nat_cmp a.now b.now) name rows ≡ type_in name.now (map named rows)
value_of-types name [] = refl
value_of-types name (row ∷ rows) = rw (is_eq-slice_cmp row.0.now name.now) (by_test (bytes_eq row.0.now name.now) row.1 _ _ (value_of-types name rows))
