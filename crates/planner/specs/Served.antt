-- Which conditions an index serves.
use Rattle.std.specs.Prelude.{ℕ, ◌+◌, ◌==◌, nat_lt, Bool, false, ◌&&◌, Option, None, Some, List, [], ◌∷◌, position, if◌then◌else◌}
use Rattle.q_base.specs.declared.ids.ColId.{ColId}
use Rattle.query_tree.specs.declared.target.CompareOp.{CompareOp}
use Rattle.query_tree.specs.declared.target.Target.{Target}
use Rattle.cost_units.specs.Tests.{Test, column_test}
use Rattle.cost_units.specs.Estimates.{is_equal}

abbrev pub value_of_test : ColId → Option Test → Option Target → Option Target
value_of_test column None others = others
value_of_test column (Some test) others = if is_equal test.op && test.column.column.0 == column.0 then Some test.value else others

-- the value of the first condition `column = v`
abbrev pub equal_value : ColId → List Target → Option Target
equal_value column [] = None
equal_value column (cond ∷ conds) = value_of_test column (column_test cond) (equal_value column conds)

abbrev pub one_more : Option Target → ℕ → ℕ
one_more None more = 0
one_more (Some value) more = 1 + more

-- how many of the first columns a condition `column = v` names
abbrev pub equal_columns : List ColId → List Target → ℕ
equal_columns [] conds = 0
equal_columns (column ∷ columns) conds = one_more (equal_value column conds) (equal_columns columns conds)

abbrev pub place_of : ColId → List ColId → Option ℕ
place_of column columns = position (λ (candidate : ColId). candidate.0 == column.0) columns

abbrev pub is_served_at : CompareOp → Option ℕ → ℕ → Bool
is_served_at op None equal = false
is_served_at op (Some place) equal = if nat_lt place equal then is_equal op else place == equal

abbrev pub is_served_test : Option Test → List ColId → ℕ → Bool
is_served_test None columns equal = false
is_served_test (Some test) columns equal = is_served_at test.op (place_of test.column.column columns) equal

-- an index scan uses the condition: `column = v` of one of the first columns that have such, or another comparison of the
-- column behind those
abbrev pub is_served : Target → List ColId → ℕ → Bool
is_served cond columns equal = is_served_test (column_test cond) columns equal
