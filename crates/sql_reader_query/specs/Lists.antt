-- Reading functions of lists.
use Rattle.std.specs.Prelude.{Bool, List, Some}
use Rattle.sql_tokens.specs.declared.token.Sign.TheVariants as sign
use Rattle.sql_expr.specs.Reading.{Tokens, Parser, eat_sign, separated}

-- one element or more, with commas between them
unfoldable pub listed : {A : Type 0} → Parser A → Parser (List A)
listed element = separated (eat_sign sign.Comma) element

-- what a test says of the tokens, of which none is read
abbrev pub looking : (Tokens → Bool) → Parser Bool
looking sees = λ ts. Some (sees ts, ts)
