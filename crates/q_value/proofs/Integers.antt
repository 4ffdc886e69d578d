use Rattle.std.proofs.Common.{◌≡◌, ℕ, ◌^◌, ◌<◌, ◌≤◌, List, [], ◌∷◌, ℤ, pos, negsuc, refl, FitsSigned, w64, IsTrue, arith, None}
use Rattle.std.proofs.lemmas.Bool.Decides.{nat_tests}
use Rattle.std.proofs.lemmas.Bool.{and_parts, lt-leb, ltb-true}
use Rattle.std.specs.Char.{is_ascii_digit, digit_value}
use Rattle.std.specs.List.{list_all}
use Rattle.std.specs.Str.Parse.{AllDigits, IsNumeral, without_leading_sign}
use Rattle.q_value.specs.declared.value.SqlType.{SqlType}
use Rattle.q_value.specs.declared.value.SqlType.TheVariants as kind
use Rattle.q_value.specs.Parse.{is_integer}
use Rattle.q_value.specs.Values.{integer_in}

-- a digit has a value below ten
digit : (c : ℕ) → IsTrue (is_ascii_digit c) → digit_value c < 10
digit c h = grind (arith, nat_tests)

digits : (ds : List ℕ) → IsTrue (list_all is_ascii_digit ds) → AllDigits 10 ds
digits [] h = tt
digits (c ∷ cs) h = let both = and_parts _ _ h in (digit c both.0, digits cs both.1)

-- what the test passes is a numeral after its sign
pub numeral : (bare : List ℕ) → IsTrue (is_integer bare) → IsNumeral 10 (without_leading_sign bare)
numeral bare h = let both = and_parts _ _ h in (ltb-true _ _ both.0, digits _ both.1)

-- a number past 64 bits
wide_pos : (n : ℕ) → (FitsSigned w64 (pos n) → ⊥) → 2 ^ 63 ≤ n
wide_pos n h = let no : n < 2 ^ 63 → ⊥ = λ lt. h (record { sfits = lt }) in omega (arith, no)

wide_neg : (n : ℕ) → (FitsSigned w64 (negsuc n) → ⊥) → 2 ^ 63 ≤ n
wide_neg n h = let no : n < 2 ^ 63 → ⊥ = λ lt. h (record { sfits = lt }) in omega (arith, no)

-- is of no integer type
pub no_integer : (type : SqlType) (z : ℤ) → (FitsSigned w64 z → ⊥) → integer_in type z ≡ None
no_integer kind.Int2 (pos n) h = rw (lt-leb n 32767 (omega (arith, wide_pos n h))) refl
no_integer kind.Int2 (negsuc n) h = rw (lt-leb n 32767 (omega (arith, wide_neg n h))) refl
no_integer kind.Int4 (pos n) h = rw (lt-leb n 2147483647 (omega (arith, wide_pos n h))) refl
no_integer kind.Int4 (negsuc n) h = rw (lt-leb n 2147483647 (omega (arith, wide_neg n h))) refl
no_integer kind.Int8 (pos n) h = rw (lt-leb n 9223372036854775807 (omega (arith, wide_pos n h))) refl
no_integer kind.Int8 (negsuc n) h = rw (lt-leb n 9223372036854775807 (omega (arith, wide_neg n h))) refl
no_integer kind.Text z h = refl
no_integer kind.Bool z h = refl
