-- Reading functions: each gives what it reads at the front of the tokens, and the tokens behind that.
use Rattle.std.specs.Prelude.{◌≡◌, ℕ, zero, suc, Bool, false, List, [], ◌∷◌, ◌++◌, length, drop, Option, Some, None, Result, Ok, Err, if◌then◌else◌}
use Rattle.std.specs.Str.{bytes_eq}
use denote.Enum.Bare.{sameb}
use Rattle.q_base.specs.declared.code.Code.TheVariants.{SyntaxError}
use Rattle.q_base.specs.declared.errors.Stop.{Stop}
use Rattle.q_base.specs.declared.errors.Stop.TheVariants.{Sql, NoMemory}
use Rattle.sql_tokens.specs.declared.token.Token.{Token}
use Rattle.sql_tokens.specs.declared.token.Token.TheVariants as token
use Rattle.sql_tokens.specs.declared.token.Sign.{Sign}
use Rattle.sql_tokens.specs.contracts.token.Sign.{the_type}
unfoldable pub use Rattle.sql_expr.specs.Lines.{Text, Tokens}

-- what was read, and the tokens behind it; nothing where the tokens don't begin so
abbrev pub Outcome : Type 0 → Type 0
Outcome A = Option (A × Tokens)

abbrev pub Parser : Type 0 → Type 0
Parser A = Tokens → Outcome A

abbrev pub and_then : {A B : Type 0} → Outcome A → (A → Parser B) → Outcome B
and_then (Some p) f = f p.0 p.1
and_then None f = None

infixl 10 ◌>>=◌
abbrev pub ◌>>=◌ : {A B : Type 0} → Parser A → (A → Parser B) → Parser B
p >>= f = λ ts. and_then (p ts) f

infixl 10 ◌>>◌
abbrev pub ◌>>◌ : {A B : Type 0} → Parser A → Parser B → Parser B
p >> q = p >>= (λ _. q)

abbrev pub pure : {A : Type 0} → A → Parser A
pure a = λ ts. Some (a, ts)

infixr 11 ◌<$>◌
abbrev pub ◌<$>◌ : {A B : Type 0} → (A → B) → Parser A → Parser B
f <$> p = p >>= (λ x. pure (f x))

abbrev pub refuse : {A : Type 0} → Parser A
refuse = λ ts. None

-- ---- single tokens

-- what the first token stands for, which is then read
abbrev pub taken_first : {A : Type 0} → Option A → Token → Tokens → Outcome (Option A)
taken_first (Some a) t ts = Some (Some a, ts)
taken_first None t ts = Some (None, t ∷ ts)

unfoldable pub taken : {A : Type 0} → (Token → Option A) → Parser (Option A)
taken f [] = Some (None, [])
taken f (t ∷ ts) = taken_first (f t) t ts

abbrev pub required : {A : Type 0} → Option A → Parser A
required (Some a) = pure a
required None = refuse

unfoldable pub sees_word : Text → Tokens → Bool
sees_word word (token.Word w ∷ ts) = bytes_eq w word
sees_word word _ = false

abbrev pub same_sign : Sign → Sign → Bool
same_sign = sameb the_type

unfoldable pub sees_sign : Sign → Tokens → Bool
sees_sign sign (token.Sign s ∷ ts) = same_sign s sign
sees_sign sign _ = false

-- the tokens behind the first, where that is read
abbrev pub behind : Bool → Tokens → Tokens
behind found ts = if found then drop 1 ts else ts

-- reads the word, if it comes next
abbrev pub eat_word : Text → Parser Bool
eat_word word = λ ts. Some (sees_word word ts, behind (sees_word word ts) ts)

abbrev pub eat_sign : Sign → Parser Bool
eat_sign sign = λ ts. Some (sees_sign sign ts, behind (sees_sign sign ts) ts)

abbrev pub expect_word : Text → Parser (Unit {0})
expect_word word = do
  found ← eat_word word
  if found then pure tt else refuse

abbrev pub expect_sign : Sign → Parser (Unit {0})
expect_sign sign = do
  found ← eat_sign sign
  if found then pure tt else refuse

-- ---- lists. The number bounds the turns; each turn reads a token, so the count of tokens is enough.

unfoldable pub separated_from : {A : Type 0} → Parser Bool → Parser A → ℕ → List A → Parser (List A)
separated_from separator item zero found = refuse
separated_from separator item (suc n) found = do
  x ← item
  more ← separator
  if more then separated_from separator item n (found ++ x ∷ []) else pure (found ++ x ∷ [])

-- one or more, with a separator between two
abbrev pub separated : {A : Type 0} → Parser Bool → Parser A → Parser (List A)
separated separator item = λ ts. separated_from separator item (length ts) [] ts

-- goes on with what was found, and else keeps what there is
abbrev pub goes_on : {A B : Type 0} → Option A → (A → Parser B) → B → Parser B
goes_on (Some a) f b = f a
goes_on None f b = pure b

-- ---- what a function that reads ensures

-- want of memory, or a refusal of tokens that don't begin so
abbrev pub Refuses : {A : Type 0} → Stop → Outcome A → Type 0
Refuses NoMemory outcome = Unit {0}
Refuses (Sql error) outcome = (error ≡ record { code = SyntaxError; args = [] }) × (outcome ≡ None)

abbrev pub Reads : {A : Type 0} → Outcome A → Result A Stop → Tokens → Type 0
Reads outcome (Ok a) new = outcome ≡ Some (a, new)
Reads outcome (Err stop) new = Refuses stop outcome
