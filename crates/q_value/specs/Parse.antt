use Rattle.std.specs.Prelude.{ℕ, ◌-◌, ℤ, Bool, true, false, ◌&&◌, ◌||◌, Option, None, Some, Result, Ok, Err, List, [], ◌∷◌, length, take, drop, nat_lt, nat_le, if◌then◌else◌, codes, option_map}
use Rattle.std.specs.List.{list_all, prefix_len, suffix_len}
use Rattle.std.specs.Char.{is_ascii_digit, is_ascii_whitespace}
use Rattle.std.specs.Str.{str_eq_ignore_ascii_case}
use Rattle.std.specs.Str.Parse.{without_leading_sign, signed_digits_value}
use Rattle.q_base.specs.declared.code.Code.TheVariants.{InvalidTextForType, ValueOutOfRange}
use Rattle.q_base.specs.declared.errors.SqlError.{SqlError}
use Rattle.q_value.specs.declared.value.SqlType.{SqlType}
use Rattle.q_value.specs.declared.value.SqlType.TheVariants as kind
use Rattle.q_value.specs.declared.value.Value.{Value}
use Rattle.q_value.specs.declared.value.Value.TheVariants as value
use Rattle.q_value.specs.Values.{type_name, integer_in}

-- the text without the blanks around it: spaces, tabs, line feeds, form feeds and carriage returns
abbrev pub bare_text : List ℕ → List ℕ
bare_text text =
    let rest = drop (prefix_len is_ascii_whitespace text) text in
    take (length rest - suffix_len is_ascii_whitespace rest) rest

-- a sign or none, and then digits, at least one
abbrev pub is_integer : List ℕ → Bool
is_integer bare = nat_lt 0 (length (without_leading_sign bare)) && list_all is_ascii_digit (without_leading_sign bare)

-- the number that a sign and digits write
abbrev pub integer_of : List ℕ → Option ℤ
integer_of bare = if is_integer bare then Some (signed_digits_value 10 bare) else None

-- the first letters of a word, one at least, in any case
abbrev pub is_front_of : List ℕ → List ℕ → Bool
is_front_of word bare = nat_lt 0 (length bare) && nat_le (length bare) (length word) && str_eq_ignore_ascii_case bare (take (length bare) word)

abbrev pub is_true : List ℕ → Bool
is_true bare = is_front_of (codes "true") bare || is_front_of (codes "yes") bare || str_eq_ignore_ascii_case bare (codes "on") || str_eq_ignore_ascii_case bare (codes "1")

abbrev pub is_false : List ℕ → Bool
is_false bare = is_front_of (codes "false") bare || is_front_of (codes "no") bare || str_eq_ignore_ascii_case bare (codes "of") || str_eq_ignore_ascii_case bare (codes "off") || str_eq_ignore_ascii_case bare (codes "0")

-- the truth value that a text writes
abbrev pub truth_of : List ℕ → Option Bool
truth_of bare = if is_true bare then Some true else (if is_false bare then Some false else None)

abbrev pub malformed : SqlType → List ℕ → SqlError
malformed type text = record { code = InvalidTextForType; args = type_name type ∷ text ∷ [] }

abbrev pub out_of_range : SqlType → List ℕ → SqlError
out_of_range type text = record { code = ValueOutOfRange; args = text ∷ type_name type ∷ [] }

-- the value, or the error where there is none
abbrev pub or_error : {A : Type 0} → SqlError → Option A → Result A SqlError
or_error error None = Err error
or_error error (Some found) = Ok found

-- the number as a value of the type, where the text writes one
abbrev pub integer_parsed : SqlType → List ℕ → Option ℤ → Result Value SqlError
integer_parsed type text None = Err (malformed type text)
integer_parsed type text (Some number) = or_error (out_of_range type text) (integer_in type number)

-- the value of a type that a text writes
abbrev pub parsed : SqlType → List ℕ → Result Value SqlError
parsed kind.Int2 text = integer_parsed kind.Int2 text (integer_of (bare_text text))
parsed kind.Int4 text = integer_parsed kind.Int4 text (integer_of (bare_text text))
parsed kind.Int8 text = integer_parsed kind.Int8 text (integer_of (bare_text text))
parsed kind.Text text = Ok (value.Text text)
parsed kind.Bool text = or_error (malformed kind.Bool text) (option_map value.Bool (truth_of (bare_text text)))
