-- Numbers of rows.
use Rattle.std.specs.Prelude.{ℕ, ◌+◌, ◌-◌, ◌*◌, ℤ, pos, neg_ℤ, Bool, true, false, [], ◌∷◌, nat_le, Option, None, Some, option_and_then, if◌then◌else◌}
use Rattle.sql_tokens.specs.declared.token.Token.TheVariants as token
use Rattle.sql_tokens.specs.declared.token.Sign.TheVariants as sign
use Rattle.sql_expr.specs.Reading.{Text, Tokens, Parser, ◌>>=◌, ◌<$>◌, pure, taken, required, eat_sign}
use Rattle.sql_expr.specs.Literals.{digits_of}

-- the number that the decimal digits write behind those of n
abbrev pub decimal_after : ℕ → Text → ℕ
decimal_after n [] = n
decimal_after n (d ∷ digits) = decimal_after (n * 10 + (d - 48)) digits

-- the number, where it is at most 2147483647
abbrev pub within : ℕ → Option ℕ
within n = if nat_le n 2147483647 then Some n else None

-- the number that the digits write, where it is at most 2147483647
unfoldable pub number_of : Text → Option ℕ
number_of digits = within (decimal_after 0 digits)

-- the same digit by digit, behind those of n
abbrev pub number_after : ℕ → Text → Option ℕ
number_after n [] = Some n
number_after n (d ∷ digits) = option_and_then (λ m. number_after m digits) (within (n * 10 + (d - 48)))

-- a number at most 2147483647
unfoldable pub count : Parser ℕ
count = do
  digits ← taken digits_of >>= required
  required (number_of digits)

abbrev pub signed : Bool → ℕ → ℤ
signed negative n = if negative then neg_ℤ (pos n) else pos n

-- `[-] count`: so the least number is -2147483647
unfoldable pub integer : Parser ℤ
integer = do
  negative ← eat_sign sign.Minus
  n ← count
  pure (signed negative n)

-- an integer can only begin so
unfoldable pub begins_integer : Tokens → Bool
begins_integer (token.Number digits ∷ ts) = true
begins_integer (token.Sign sign.Minus ∷ ts) = true
begins_integer _ = false

unfoldable pub optional_integer : Parser (Option ℤ)
optional_integer = λ ts. (if begins_integer ts then Some <$> integer else pure None) ts
