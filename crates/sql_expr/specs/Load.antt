-- The load of a command: a number that bounds the depth of its tree.
use Rattle.std.specs.Prelude.{ℕ, List, [], ◌∷◌, max, min, sum, codes, if◌then◌else◌, ◌||◌}
use Rattle.std.specs.Str.{bytes_eq}
use Rattle.sql_tokens.specs.declared.token.Token.{Token}
use Rattle.sql_tokens.specs.declared.token.Token.TheVariants as token
use Rattle.sql_tokens.specs.declared.token.Sign.TheVariants as sign
use Rattle.sql_expr.specs.declared.levels.Effect.{Effect}
use Rattle.sql_expr.specs.declared.levels.Effect.TheVariants.{Opens, Closes, Weighs, Separates, Nothing}
use Rattle.sql_expr.specs.Levels.{opened, closed, weighed, separated}

-- `+ - * / NOT` weigh, and what stands behind `,`, AND or OR weighs afresh
abbrev pub effect_of_word : List ℕ → Effect
effect_of_word word = if bytes_eq word (codes "not") then Weighs else (if bytes_eq word (codes "and") || bytes_eq word (codes "or") then Separates else Nothing)

abbrev pub effect_of : Token → Effect
effect_of (token.Sign sign.LeftParen) = Opens
effect_of (token.Sign sign.RightParen) = Closes
effect_of (token.Sign sign.Plus) = Weighs
effect_of (token.Sign sign.Minus) = Weighs
effect_of (token.Sign sign.Star) = Weighs
effect_of (token.Sign sign.Slash) = Weighs
effect_of (token.Sign sign.Comma) = Separates
effect_of (token.Word word) = effect_of_word word
effect_of _ = Nothing

-- the levels at a token, from those before it
abbrev pub after : Effect → List ℕ → List ℕ
after Opens levels = opened levels
after Closes levels = closed levels
after Weighs levels = weighed levels
after Separates levels = separated levels
after Nothing levels = levels

-- the greatest sum of the levels' weights at any of the tokens
unfoldable pub greatest : List ℕ → List Token → ℕ
greatest levels [] = 0
greatest levels (t ∷ ts) = max (sum (after (effect_of t) levels)) (greatest (after (effect_of t) levels) ts)

-- the load, cut at 201; the command itself is the outermost level
unfoldable pub load_of : List Token → ℕ
load_of tokens = min 201 (greatest (1 ∷ []) tokens)
