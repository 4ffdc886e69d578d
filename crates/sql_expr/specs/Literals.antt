-- Constants that stand for themselves.
use Rattle.std.specs.Prelude.{true, false, Option, Some, None, codes, if◌then◌else◌}
use Rattle.std.specs.Str.{bytes_eq}
use Rattle.sql_tokens.specs.declared.token.Token.{Token}
use Rattle.sql_tokens.specs.declared.token.Token.TheVariants as token
use Rattle.sql_tokens.specs.declared.token.Sign.TheVariants as sign
use Rattle.sql_tree.specs.declared.expr.Expr.{Expr}
use Rattle.sql_tree.specs.declared.expr.Expr.TheVariants as e
use Rattle.sql_tree.specs.declared.expr.Literal.{Literal}
use Rattle.sql_tree.specs.declared.expr.Literal.TheVariants as literal
use Rattle.sql_tree.specs.declared.expr.Numeral.{Numeral}
use Rattle.sql_expr.specs.Reading.{Text, Parser, ◌>>=◌, pure, taken, required, eat_sign}

abbrev pub literal_of_word : Text → Option Literal
literal_of_word word =
    if bytes_eq word (codes "null") then Some literal.Null
    else (if bytes_eq word (codes "true") then Some (literal.Bool true)
    else (if bytes_eq word (codes "false") then Some (literal.Bool false) else None))

-- the constant that a token is
abbrev pub literal_of : Token → Option Literal
literal_of (token.Number digits) = Some (literal.Number (record { negative = false; digits = digits }))
literal_of (token.Text text) = Some (literal.Text text)
literal_of (token.Word word) = literal_of_word word
literal_of _ = None

-- the digits of a token that is a number
abbrev pub digits_of : Token → Option Text
digits_of (token.Number digits) = Some digits
digits_of _ = None

-- the digits of a token that is a parameter
abbrev pub param_of : Token → Option Text
param_of (token.Param digits) = Some digits
param_of _ = None

-- the literal that a number with a minus before it is
abbrev pub negative_number : Text → Expr
negative_number digits = e.Literal (literal.Number (record { negative = true; digits = digits }))

-- the operand that is one token, but for a name
abbrev pub constant_of_literal : Option Literal → Option Expr
constant_of_literal (Some l) = Some (e.Literal l)
constant_of_literal None = None

abbrev pub constant_of : Token → Option Expr
constant_of (token.Param digits) = Some (e.Param digits)
constant_of t = constant_of_literal (literal_of t)

-- `[-] number`
unfoldable pub numeral : Parser Numeral
numeral = do
  negative ← eat_sign sign.Minus
  digits ← taken digits_of >>= required
  pure (record { negative = negative; digits = digits })
