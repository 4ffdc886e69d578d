-- Names as they are read: words that aren't reserved, and quoted identifiers.
use Rattle.std.specs.Prelude.{Bool, false, is_some, [], ◌∷◌, Option, Some, None, if◌then◌else◌}
use Rattle.std.specs.List.{list_any}
use Rattle.std.specs.Str.{bytes_eq}
use Rattle.sql_tokens.specs.declared.token.Token.{Token}
use Rattle.sql_tokens.specs.declared.token.Token.TheVariants as token
use Rattle.sql_expr.specs.Reading.{Text, Tokens, Parser, ◌>>=◌, taken, required}
use Rattle.sql_expr.specs.Lines.{reserved_words}

-- the word is a name only between quotes
unfoldable pub is_reserved : Text → Bool
is_reserved word = list_any (λ reserved. bytes_eq reserved word) reserved_words

-- the name that a token is
abbrev pub name_of : Token → Option Text
name_of (token.Word word) = if is_reserved word then None else Some word
name_of (token.Quoted name) = Some name
name_of _ = None

unfoldable pub sees_name : Tokens → Bool
sees_name [] = false
sees_name (t ∷ ts) = is_some (name_of t)

-- reads a name, if one comes next
abbrev pub given_name : Parser (Option Text)
given_name = taken name_of

abbrev pub name : Parser Text
name = given_name >>= required
