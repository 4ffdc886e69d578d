-- What is read of tokens up to where nothing can go on with it, told by how many of them it takes.
use Rattle.std.specs.Prelude.{◌≡◌, ◌≤◌, ℕ, Bool, true, false, not, [], ◌∷◌, length, drop, Option, Some, None, codes, if◌then◌else◌}
use Rattle.std.specs.List.{list_any}
use Rattle.std.specs.Str.{bytes_eq}
use Rattle.sql_tokens.specs.declared.token.Token.{Token}
use Rattle.sql_tokens.specs.declared.token.Token.TheVariants as token
use Rattle.sql_tokens.specs.declared.token.Sign.{Sign}
use Rattle.sql_tokens.specs.declared.token.Sign.TheVariants as sign
use Rattle.sql_tree.specs.declared.expr.Expr.{Expr}
use Rattle.sql_expr.specs.Reading.{Text, Tokens, Outcome, same_sign}
use Rattle.sql_expr.specs.Grammar.{expression, longest}

-- a token that can go on with an expression
abbrev pub continues_by_word : Text → Bool
continues_by_word w = list_any (λ word. bytes_eq w word) (codes "or" ∷ codes "and" ∷ codes "is" ∷ codes "not" ∷ codes "in" ∷ codes "between" ∷ [])

abbrev pub continues_by_sign : Sign → Bool
continues_by_sign s = list_any (λ operator. same_sign s operator)
    (sign.Equal ∷ sign.NotEqual ∷ sign.Less ∷ sign.LessEqual ∷ sign.Greater ∷ sign.GreaterEqual
    ∷ sign.Plus ∷ sign.Minus ∷ sign.Star ∷ sign.Slash ∷ sign.LeftParen ∷ sign.Dot ∷ [])

abbrev pub continues : Token → Bool
continues (token.Word w) = continues_by_word w
continues (token.Sign s) = continues_by_sign s
continues _ = false

-- no such token comes next
abbrev pub is_ended : Tokens → Bool
is_ended [] = true
is_ended (t ∷ ts) = not (continues t)

-- what is read, where no token behind it could have gone on with it
abbrev pub where_ended : Outcome Expr → Outcome Expr
where_ended (Some read) = if is_ended read.1 then Some read else None
where_ended None = None

abbrev pub IsToldOf : Tokens → Outcome Expr → Option (Expr × ℕ) → Type 0
IsToldOf tokens outcome (Some read) = (read.1 ≤ length tokens) × (outcome ≡ Some (read.0, drop read.1 tokens))
IsToldOf tokens outcome None = outcome ≡ None

abbrev pub IsLongest : Tokens → Option (Expr × ℕ) → Type 0
IsLongest tokens (Some read) = (read.1 ≤ length tokens) × longest tokens read.0 (drop read.1 tokens)
IsLongest tokens None = (expr : Expr) (behind : Tokens) → expression tokens expr behind → ⊥
