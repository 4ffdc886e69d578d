use Rattle.std.specs.Prelude.{Bool, true, Option, None, Some, List, [], ◌∷◌, ◌&&◌, filter, if◌then◌else◌}
use Rattle.std.specs.Ordering.{is_lt, is_eq}
use Rattle.std.specs.declared.cmp.Ordering.{Ordering}

-- each key is below the next
abbrev pub ascends : {K V : Type 0} → (K → K → Ordering) → List (K × V) → Bool
ascends cmp [] = true
ascends cmp (row ∷ []) = true
ascends cmp (row ∷ next ∷ rows) = is_lt (cmp row.0 next.0) && ascends cmp (next ∷ rows)

-- the value of the row of a key
abbrev pub value_of : {K V : Type 0} → (K → K → Ordering) → K → List (K × V) → Option V
value_of cmp key [] = None
value_of cmp key (row ∷ rows) = if is_eq (cmp row.0 key) then Some row.1 else value_of cmp key rows

-- the rows of a key
abbrev pub rows_of : {K V : Type 0} → (K → K → Ordering) → K → List (K × V) → List (K × V)
rows_of cmp key rows = filter (λ row. is_eq (cmp row.0 key)) rows
