use Rattle.std.specs.Prelude.{◌≡◌, ◌≢◌, ℕ, ◌==◌, ◌<◌, ◌≤◌, ◌⊎◌, Bool, true, false, not, ◌&&◌, ◌||◌, List, [], ◌∷◌, ◌++◌, map, length, codes, chars, encode_utf8_all, Ok, Err, if◌then◌else◌}
use Rattle.std.specs.Bool.{IsTrue, IsFalse}
use Rattle.std.specs.Char.{is_ascii_alphabetic, is_ascii_digit, to_ascii_lowercase}
use Rattle.std.specs.List.{list_all}
use Rattle.q_base.specs.declared.code.Code.TheVariants.{IdentifierTooLong}
use Rattle.q_base.specs.declared.errors.SqlError.{SqlError}
use Rattle.sql_tokens.specs.declared.lexer.Place.{Place}
use Rattle.sql_tokens.specs.declared.lexer.Place.TheVariants.{Start, Later, BackslashLine}
use Rattle.sql_tokens.specs.declared.token.Sign.{Sign}
use Rattle.sql_tokens.specs.declared.token.Sign.TheVariants.{Equal, NotEqual, Less, LessEqual, Greater, GreaterEqual, Plus, Minus, Star, Slash, LeftParen, RightParen, Comma, Dot}
use Rattle.sql_tokens.specs.declared.token.Token.{Token}
use Rattle.sql_tokens.specs.declared.token.Token.TheVariants as token
use Rattle.sql_tokens.specs.Tokens.{Outcome, syntax_error, is_blank, begins_word, is_in_word, is_in_line, behind}

-- What a text spells, as docs/LANGUAGE.md has it under "Tokens". `cs` are the characters from a place of the
-- text on, and `rest` those behind what stands there.

-- the characters begin with that text
abbrev pub starts : List ℕ → List ℕ → Bool
starts [] cs = true
starts (t ∷ text) [] = false
starts (t ∷ text) (c ∷ cs) = c == t && starts text cs

-- they begin with a character of that class
abbrev pub next_is : (ℕ → Bool) → List ℕ → Bool
next_is class [] = false
next_is class (c ∷ cs) = class c

-- the longest run of characters of that class
pub record IsRun (class : ℕ → Bool) (cs run rest : List ℕ) : Type 0 where
  pub parts : cs ≡ run ++ rest
  pub alike : IsTrue (list_all class run)
  pub longest : IsFalse (next_is class rest)

-- ---- gaps

-- behind its `/*` a block comment goes on up to its `*/`; one that begins in it ends first
pub data IsComment : List ℕ → List ℕ → Type 0 where
  ended : (rest : List ℕ) → IsComment (codes "*/" ++ rest) rest
  nested : (cs inner rest : List ℕ) → IsComment cs inner → IsComment inner rest → IsComment (codes "/*" ++ cs) rest
  goes_on : (c : ℕ) (cs rest : List ℕ) → IsFalse (starts (codes "*/") (c ∷ cs)) → IsFalse (starts (codes "/*") (c ∷ cs)) → IsComment cs rest
      → IsComment (c ∷ cs) rest

-- a blank, a line comment up to the line feed or the end, or a block comment; no comment on a backslash line
pub data IsGap (place : Place) : List ℕ → List ℕ → Type 0 where
  blank : (c : ℕ) (rest : List ℕ) → IsTrue (is_blank c) → IsGap place (c ∷ rest) rest
  line : (cs line rest : List ℕ) → place ≢ BackslashLine → IsRun is_in_line cs line rest → IsGap place (codes "--" ++ cs) rest
  block : (cs rest : List ℕ) → place ≢ BackslashLine → IsComment cs rest → IsGap place (codes "/*" ++ cs) rest

abbrev pub begins_comment : Place → List ℕ → Bool
begins_comment BackslashLine cs = false
begins_comment Start cs = starts (codes "--") cs || starts (codes "/*") cs
begins_comment Later cs = starts (codes "--") cs || starts (codes "/*") cs

-- ---- tokens

-- ASCII letters are made small
abbrev pub folded : List ℕ → List ℕ
folded word = encode_utf8_all (map to_ascii_lowercase word)

-- each quote in a content is written twice
abbrev pub doubled : ℕ → List ℕ → List ℕ
doubled quote [] = []
doubled quote (c ∷ content) = if c == quote then quote ∷ quote ∷ doubled quote content else c ∷ doubled quote content

-- behind the quote that begins it: a content, and the quote that ends it
pub record IsQuoted (quote : ℕ) (cs content rest : List ℕ) : Type 0 where
  pub parts : cs ≡ doubled quote content ++ quote ∷ rest
  pub ends : IsFalse (next_is (λ c. c == quote) rest)

-- what must not stand directly behind a number
abbrev pub is_letter : ℕ → Bool
is_letter c = is_ascii_alphabetic c || c == 95

-- how each sign is written
abbrev pub IsSign : Sign → List ℕ → Type 0
IsSign Equal text = text ≡ codes "="
IsSign NotEqual text = (text ≡ codes "<>") ⊎ (text ≡ codes "!=")
IsSign Less text = text ≡ codes "<"
IsSign LessEqual text = text ≡ codes "<="
IsSign Greater text = text ≡ codes ">"
IsSign GreaterEqual text = text ≡ codes ">="
IsSign Plus text = text ≡ codes "+"
IsSign Minus text = text ≡ codes "-"
IsSign Star text = text ≡ codes "*"
IsSign Slash text = text ≡ codes "/"
IsSign LeftParen text = text ≡ codes "("
IsSign RightParen text = text ≡ codes ")"
IsSign Comma text = text ≡ codes ","
IsSign Dot text = text ≡ codes "."

pub record HasSign (cs : List ℕ) (sign : Sign) (rest : List ℕ) : Type 0 where
  pub text : List ℕ
  pub parts : cs ≡ text ++ rest
  pub written : IsSign sign text

-- one case for each kind. The sign is the longest that stands there, where no comment begins
pub data IsToken (place : Place) : List ℕ → Token → List ℕ → Type 0 where
  backslash : (cs letters rest : List ℕ) → place ≡ Start → IsRun is_ascii_alphabetic cs letters rest
      → IsToken place (codes "\\" ++ cs) (token.Backslash (encode_utf8_all letters)) rest
  word : (cs word rest : List ℕ) → IsTrue (next_is begins_word cs) → IsRun is_in_word cs word rest → length (folded word) ≤ 63
      → IsToken place cs (token.Word (folded word)) rest
  quoted : (cs name rest : List ℕ) → IsQuoted 34 cs name rest → name ≢ [] → length (encode_utf8_all name) ≤ 63
      → IsToken place (codes "\"" ++ cs) (token.Quoted (encode_utf8_all name)) rest
  text : (cs content rest : List ℕ) → IsQuoted 39 cs content rest → IsToken place (codes "'" ++ cs) (token.Text (encode_utf8_all content)) rest
  number : (cs digits rest : List ℕ) → IsTrue (next_is is_ascii_digit cs) → IsRun is_ascii_digit cs digits rest → IsFalse (next_is is_letter rest)
      → IsToken place cs (token.Number (encode_utf8_all digits)) rest
  param : (cs digits rest : List ℕ) → IsTrue (next_is is_ascii_digit cs) → IsRun is_ascii_digit cs digits rest
      → IsToken place (codes "$" ++ cs) (token.Param (encode_utf8_all digits)) rest
  sign : (cs : List ℕ) (sign : Sign) (rest : List ℕ) → IsFalse (begins_comment place cs) → HasSign cs sign rest
      → ((other : Sign) (less : List ℕ) → HasSign cs other less → length rest ≤ length less)
      → IsToken place cs (token.Sign sign) rest

-- ---- refusals

abbrev pub too_long : List ℕ → SqlError
too_long name = record { code = IdentifierTooLong; args = name ∷ [] }

abbrev pub IsUnended : ℕ → List ℕ → Type 0
IsUnended quote cs = (content rest : List ℕ) → ¬ IsQuoted quote cs content rest

-- no blank, word, number, parameter, string or quoted identifier begins with it
abbrev pub is_other : ℕ → Bool
is_other c = not (is_blank c || begins_word c || is_ascii_digit c || c == 36 || c == 39 || c == 34)

-- one case for each cause: a block comment, quoted identifier or string without its end; an identifier that is
-- empty or has more than 63 bytes; a number with a letter or `_` behind it; a `$` without digits; a character
-- that begins nothing
pub data IsRefused (place : Place) : List ℕ → SqlError → Type 0 where
  comment : (cs : List ℕ) → place ≢ BackslashLine → ((rest : List ℕ) → ¬ IsComment cs rest) → IsRefused place (codes "/*" ++ cs) syntax_error
  quoted : (cs : List ℕ) → IsUnended 34 cs → IsRefused place (codes "\"" ++ cs) syntax_error
  text : (cs : List ℕ) → IsUnended 39 cs → IsRefused place (codes "'" ++ cs) syntax_error
  empty : (cs rest : List ℕ) → IsQuoted 34 cs [] rest → IsRefused place (codes "\"" ++ cs) syntax_error
  long_quoted : (cs name rest : List ℕ) → IsQuoted 34 cs name rest → 63 < length (encode_utf8_all name)
      → IsRefused place (codes "\"" ++ cs) (too_long (encode_utf8_all name))
  long_word : (cs word rest : List ℕ) → IsTrue (next_is begins_word cs) → IsRun is_in_word cs word rest → 63 < length (folded word)
      → IsRefused place cs (too_long (folded word))
  number : (cs digits rest : List ℕ) → IsTrue (next_is is_ascii_digit cs) → IsRun is_ascii_digit cs digits rest → IsTrue (next_is is_letter rest)
      → IsRefused place cs syntax_error
  param : (cs : List ℕ) → IsFalse (next_is is_ascii_digit cs) → IsRefused place (codes "$" ++ cs) syntax_error
  other : (c : ℕ) (cs : List ℕ) → IsTrue (is_other c) → (place ≡ Start → c ≢ 92) → ((sign : Sign) (rest : List ℕ) → ¬ HasSign (c ∷ cs) sign rest)
      → IsRefused place (c ∷ cs) syntax_error

-- ---- the whole text

abbrev pub with_token : Token → Outcome (List Token) → Outcome (List Token)
with_token found (Ok tokens) = Ok (found ∷ tokens)
with_token found (Err error) = Err error

-- the tokens from the place on, or the first refusal: at the end no token; behind a gap the same; a token, and
-- then what comes behind it; or a refusal here
pub data Spells : Place → List ℕ → Outcome (List Token) → Type 0 where
  at_end : (place : Place) → Spells place [] (Ok [])
  behind_gap : (place : Place) (cs rest : List ℕ) (given : Outcome (List Token)) → IsGap place cs rest → Spells place rest given → Spells place cs given
  behind_token : (place : Place) (cs : List ℕ) (found : Token) (rest : List ℕ) (given : Outcome (List Token)) → IsToken place cs found rest
      → Spells (behind place found) rest given → Spells place cs (with_token found given)
  at_refusal : (place : Place) (cs : List ℕ) (error : SqlError) → IsRefused place cs error → Spells place cs (Err error)

-- what the text of a command gives
abbrev pub TextSpells : List ℕ → Outcome (List Token) → Type 0
TextSpells command given = Spells Start (chars command) given
