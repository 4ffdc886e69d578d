use Rattle.std.specs.Prelude.{◌≡◌, ℕ, ℤ, pos, negsuc, int_le, Bool, ◌&&◌, Option, None, Some, List, [], ◌∷◌, if◌then◌else◌, codes, IfSome}
use Rattle.q_value.specs.declared.value.SqlType.{SqlType}
use Rattle.q_value.specs.declared.value.SqlType.TheVariants as kind
use Rattle.q_value.specs.declared.value.Value.{Value}
use Rattle.q_value.specs.declared.value.Value.TheVariants as value

-- the name of a type in texts
abbrev pub type_name : SqlType → List ℕ
type_name kind.Int2 = codes "smallint"
type_name kind.Int4 = codes "integer"
type_name kind.Int8 = codes "bigint"
type_name kind.Text = codes "text"
type_name kind.Bool = codes "boolean"

-- the type of a value that isn't null
abbrev pub kind_of : Value → Option SqlType
kind_of value.Null = None
kind_of (value.Int2 number) = Some kind.Int2
kind_of (value.Int4 number) = Some kind.Int4
kind_of (value.Int8 number) = Some kind.Int8
kind_of (value.Text text) = Some kind.Text
kind_of (value.Bool truth) = Some kind.Bool

-- a value is of a type where it is null or of that very type
abbrev pub IsOf : SqlType → Value → Type 0
IsOf type item = IfSome (kind_of item) (λ found. found ≡ type)

-- a row fits types where it has one value for each, of that type
abbrev pub Fits : List SqlType → List Value → Type 0
Fits [] [] = Unit {0}
Fits [] (item ∷ items) = ⊥
Fits (type ∷ types) [] = ⊥
Fits (type ∷ types) (item ∷ items) = IsOf type item × Fits types items

-- the number of a value of an integer type
abbrev pub number_of : Value → Option ℤ
number_of value.Null = None
number_of (value.Int2 number) = Some number
number_of (value.Int4 number) = Some number
number_of (value.Int8 number) = Some number
number_of (value.Text text) = None
number_of (value.Bool truth) = None

-- a number within two bounds
abbrev pub is_within : ℤ → ℤ → ℤ → Bool
is_within least greatest number = int_le least number && int_le number greatest

-- a number as a value of an integer type, in whose range it lies: 16, 32 or 64 bits with a sign
abbrev pub integer_in : SqlType → ℤ → Option Value
integer_in kind.Int2 number = if is_within (negsuc 32767) (pos 32767) number then Some (value.Int2 number) else None
integer_in kind.Int4 number = if is_within (negsuc 2147483647) (pos 2147483647) number then Some (value.Int4 number) else None
integer_in kind.Int8 number = if is_within (negsuc 9223372036854775807) (pos 9223372036854775807) number then Some (value.Int8 number) else None
integer_in kind.Text number = None
integer_in kind.Bool number = None
