use Rattle.std.specs.Prelude.{◌≡◌, ℕ, ℤ, Bool, Option, None, Some, if◌then◌else◌, ⊤}
use Rattle.std.specs.declared.cmp.Ordering.{Ordering}
use Rattle.std.specs.declared.cmp.Ordering.TheVariants.{Less, Equal, Greater}
use Rattle.std.specs.Ordering.{nat_cmp, int_cmp, bool_cmp, ordering_reverse}
use Rattle.std.specs.Cmp.Lexicographic.{slice_cmp}
use Rattle.q_value.specs.declared.value.Value.{Value}
use Rattle.q_value.specs.declared.value.Value.TheVariants as value
use Rattle.q_value.specs.Values.{number_of}

-- numbers before texts, texts before booleans, nulls last
abbrev pub rank_of : Value → ℕ
rank_of (value.Int2 number) = 0
rank_of (value.Int4 number) = 0
rank_of (value.Int8 number) = 0
rank_of (value.Text text) = 1
rank_of (value.Bool truth) = 2
rank_of value.Null = 3

-- two values are comparable where they are of one rank, and null is comparable with each
abbrev pub AreComparable : Value → Value → Type 0
AreComparable value.Null right = ⊤
AreComparable left value.Null = ⊤
AreComparable left right = rank_of left ≡ rank_of right

-- two numbers by value, and else as said
abbrev pub number_cmp : Option ℤ → Option ℤ → Ordering → Ordering
number_cmp (Some left) (Some right) otherwise = int_cmp left right
number_cmp None right otherwise = otherwise
number_cmp (Some left) None otherwise = otherwise

-- the order of keys: integers of any type by value, texts by bytes, booleans false first, and values of other ranks by rank
abbrev pub key_cmp : Value → Value → Ordering
key_cmp (value.Text left) (value.Text right) = slice_cmp nat_cmp left right
key_cmp (value.Bool left) (value.Bool right) = bool_cmp left right
key_cmp left right = number_cmp (number_of left) (number_of right) (nat_cmp (rank_of left) (rank_of right))

-- a comparison's answer, unknown where a value is null
abbrev pub compared : Value → Value → Option Ordering
compared value.Null right = None
compared left value.Null = None
compared left right = Some (key_cmp left right)

-- the order that a sort key asks for, with nulls first or last as it says
abbrev pub sort_cmp : Bool → Bool → Value → Value → Ordering
sort_cmp desc nulls_first value.Null value.Null = Equal
sort_cmp desc nulls_first value.Null right = if nulls_first then Less else Greater
sort_cmp desc nulls_first left value.Null = if nulls_first then Greater else Less
sort_cmp desc nulls_first left right = if desc then ordering_reverse (key_cmp left right) else key_cmp left right
