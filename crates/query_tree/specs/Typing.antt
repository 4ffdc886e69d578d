-- Which targets are typed, over the types of a row and of the parameters.
use Rattle.std.specs.Prelude.{ℕ, zero, suc, Bool, true, false, ◌≡◌, Option, None, Some, List, [], ◌∷◌, map, slice_get, if◌then◌else◌}
use Rattle.std.specs.List.{list_all}
use Rattle.std.specs.Option.{option_and_then, option_map_or}
use Rattle.q_value.specs.declared.value.SqlType.{SqlType}
use Rattle.q_value.specs.declared.value.SqlType.TheVariants as kind
use Rattle.q_value.specs.declared.value.Value.{Value}
use Rattle.q_value.specs.Values.{kind_of, IsOf}
use Rattle.query_tree.specs.declared.target.Target.{Target}
use Rattle.query_tree.specs.declared.target.Target.TheOpen.{Target-F}
use Rattle.query_tree.specs.declared.target.Target.TheFolds.{fold-Target}

abbrev pub is_kind : SqlType → SqlType → Bool
is_kind kind.Int2 kind.Int2 = true
is_kind kind.Int4 kind.Int4 = true
is_kind kind.Int8 kind.Int8 = true
is_kind kind.Text kind.Text = true
is_kind kind.Bool kind.Bool = true
is_kind left right = false

-- the type, where it is one of integers
abbrev pub integer_kind : SqlType → Option SqlType
integer_kind kind.Int2 = Some kind.Int2
integer_kind kind.Int4 = Some kind.Int4
integer_kind kind.Int8 = Some kind.Int8
integer_kind kind.Text = None
integer_kind kind.Bool = None

-- the wider of two types, where both are types of integers
abbrev pub wider : SqlType → SqlType → Option SqlType
wider kind.Int2 right = integer_kind right
wider kind.Int4 kind.Int2 = Some kind.Int4
wider kind.Int4 right = integer_kind right
wider kind.Int8 right = option_and_then (λ type. Some kind.Int8) (integer_kind right)
wider kind.Text right = None
wider kind.Bool right = None

-- the type in which two types are compared, where they are comparable
abbrev pub common_kind : SqlType → SqlType → Option SqlType
common_kind kind.Text kind.Text = Some kind.Text
common_kind kind.Bool kind.Bool = Some kind.Bool
common_kind left right = wider left right

-- a type where that is the type expected
abbrev pub expected : SqlType → Option SqlType → Option SqlType
expected kind None = None
expected kind (Some found) = if is_kind found kind then Some kind else None

-- the type of a constant, where the value is of it: null is of each
abbrev pub constant_kind : SqlType → Value → Option SqlType
constant_kind kind constant = option_map_or (λ found. expected kind (Some found)) (kind_of constant) (Some kind)

-- the types of a row's values by their places; any value may stand where there is no type
abbrev pub column_kind : List (Option SqlType) → ℕ → Option SqlType
column_kind columns place = option_and_then (λ column. column) (slice_get columns place)

-- the type of $n
abbrev pub param_kind : List SqlType → ℕ → Option SqlType
param_kind params zero = None
param_kind params (suc place) = slice_get params place

abbrev pub is_truth : Option SqlType → Bool
is_truth (Some kind.Bool) = true
is_truth other = false

-- a comparison is boolean, where its sides are comparable
abbrev pub comparison_kind : Option SqlType → Option SqlType → Option SqlType
comparison_kind left right = option_and_then (λ l. option_and_then (λ r. option_and_then (λ common. Some kind.Bool) (common_kind l r)) right) left

-- what joins booleans is boolean
abbrev pub joined_kind : List (Option SqlType) → Option SqlType
joined_kind operands = if list_all is_truth operands then Some kind.Bool else None

-- one node, with the type of each operand in its place; IN is the OR of its comparisons, and BETWEEN the AND of its two
abbrev pub node_kind : List (Option SqlType) → List SqlType → Target-F (Option SqlType) → Option SqlType
node_kind columns params (Target-F.Const kind constant) = constant_kind kind constant
node_kind columns params (Target-F.Param kind number) = expected kind (param_kind params number)
node_kind columns params (Target-F.Column kind column) = expected kind (column_kind columns column.place)
node_kind columns params (Target-F.Aggregate kind aggregate) = expected kind (column_kind columns aggregate.place)
node_kind columns params (Target-F.Arithmetic op kind left right) = option_and_then (λ l. option_and_then (λ r. expected kind (wider l r)) right) left
node_kind columns params (Target-F.Negate kind operand) = option_and_then (λ found. expected kind (integer_kind found)) operand
node_kind columns params (Target-F.Compare op left right) = comparison_kind left right
node_kind columns params (Target-F.IsNull operand negated) = option_and_then (λ found. Some kind.Bool) operand
node_kind columns params (Target-F.Not operand) = if is_truth operand then Some kind.Bool else None
node_kind columns params (Target-F.And operands) = joined_kind operands
node_kind columns params (Target-F.Or operands) = joined_kind operands
node_kind columns params (Target-F.In operand values) = joined_kind (map (comparison_kind operand) values)
node_kind columns params (Target-F.Between operand low high) = joined_kind (comparison_kind operand low ∷ comparison_kind operand high ∷ [])

-- the type of a target, where it is typed over such rows and parameters
abbrev pub typed_kind : List (Option SqlType) → List SqlType → Target → Option SqlType
typed_kind columns params target = fold-Target (Option SqlType) (node_kind columns params) target

-- a target is typed, and of that type
abbrev pub IsTyped : List (Option SqlType) → List SqlType → SqlType → Target → Type 0
IsTyped columns params kind target = typed_kind columns params target ≡ Some kind

-- a row fits types where it has one value for each, of that type where there is one
abbrev pub FitsRow : List (Option SqlType) → List Value → Type 0
FitsRow [] [] = Unit {0}
FitsRow [] (item ∷ items) = ⊥
FitsRow (column ∷ columns) [] = ⊥
FitsRow (Some type ∷ columns) (item ∷ items) = IsOf type item × FitsRow columns items
FitsRow (None ∷ columns) (item ∷ items) = FitsRow columns items
