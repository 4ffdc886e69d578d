use Rattle.std.specs.Prelude.{◌≡◌, ℕ, zero, suc, ◌+◌, ◌-◌, ◌==◌, nat_lt, Bool, true, false, not, ◌&&◌, ◌||◌, List, [], ◌∷◌, ◌++◌, map, length, drop, chars, encode_utf8, encode_utf8_all, Option, Some, None, option_to_list, Result, Ok, Err, MatchResult, if◌then◌else◌}
use Rattle.std.specs.Borrow.{Bor}
use Rattle.std.specs.Char.{is_ascii, is_ascii_alphabetic, is_ascii_digit, to_ascii_lowercase}
use Rattle.std.specs.Option.{option_copied}
use Rattle.std.specs.List.{prefix_len, take_while}
use Rattle.q_base.specs.declared.code.Code.TheVariants.{SyntaxError, IdentifierTooLong}
use Rattle.q_base.specs.declared.errors.SqlError.{SqlError}
use Rattle.q_base.specs.declared.errors.Stop.{Stop}
use Rattle.q_base.specs.Stops.{StopsBy}
use Rattle.sql_tokens.specs.declared.lexer.Place.{Place}
use Rattle.sql_tokens.specs.declared.lexer.Place.TheVariants.{Start, Later, BackslashLine}
use Rattle.sql_tokens.specs.declared.lexer.characters.Class.{Class}
use Rattle.sql_tokens.specs.declared.lexer.characters.Class.TheVariants.{Digit, Letter, InWord, InLine}
use Rattle.sql_tokens.specs.declared.token.Sign.{Sign}
use Rattle.sql_tokens.specs.declared.token.Sign.TheVariants.{Equal, NotEqual, Less, LessEqual, Greater, GreaterEqual, Plus, Minus, Star, Slash, LeftParen, RightParen, Comma, Dot}
use Rattle.sql_tokens.specs.declared.token.Token.{Token}
use Rattle.sql_tokens.specs.declared.token.Token.TheVariants as token

-- ---- refusals

abbrev pub Outcome : Type 0 → Type 0
Outcome A = Result A SqlError

infixl 10 ◌>>=◌
abbrev pub ◌>>=◌ : {A B : Type 0} → Outcome A → (A → Outcome B) → Outcome B
Ok a >>= f = f a
Err e >>= f = Err e

abbrev pub syntax_error : SqlError
syntax_error = record { code = SyntaxError; args = [] }

-- ---- characters

-- space, tab, line feed, form feed, carriage return
abbrev pub is_blank : ℕ → Bool
is_blank c = c == 32 || c == 9 || c == 10 || c == 12 || c == 13

-- an ASCII letter, `_` or a character past ASCII
abbrev pub begins_word : ℕ → Bool
begins_word c = is_ascii_alphabetic c || c == 95 || not (is_ascii c)

-- a word goes on with these, digits and `$`
abbrev pub is_in_word : ℕ → Bool
is_in_word c = begins_word c || is_ascii_digit c || c == 36

-- a line goes on to the line feed
abbrev pub is_in_line : ℕ → Bool
is_in_line c = not (c == 10)

abbrev pub is_in : Class → ℕ → Bool
is_in Digit c = is_ascii_digit c
is_in Letter c = is_ascii_alphabetic c
is_in InWord c = is_in_word c
is_in InLine c = is_in_line c

-- the characters up to the first that isn't in the class
abbrev pub run_of : Class → List ℕ → List ℕ
run_of class cs = take_while (is_in class) cs

-- the characters from the first that isn't in the class on
abbrev pub after_run : Class → List ℕ → List ℕ
after_run class cs = drop (prefix_len (is_in class) cs) cs

-- ---- blanks and comments

-- the characters after the end of a block comment, in which so many others are open
unfoldable pub after_block : ℕ → List ℕ → Option (List ℕ)
after_block nested [] = None
after_block nested (c ∷ []) = None
after_block nested (c ∷ d ∷ cs) =
    if c == 42 && d == 47 then (if nested == 0 then Some cs else after_block (nested - 1) cs)
    else (if c == 47 && d == 42 then after_block (nested + 1) cs else after_block nested (d ∷ cs))

-- what one turn takes in a block comment: a `*/`, a `/*` or another character. With the characters after it stands
-- how many comments are open there, or none where the block comment itself has ended
unfoldable pub block_turn : ℕ → List ℕ → Option ℕ × List ℕ
block_turn nested [] = (None, [])
block_turn nested (c ∷ []) = (Some nested, [])
block_turn nested (c ∷ d ∷ cs) =
    if c == 42 && d == 47 then ((if nested == 0 then None else Some (nested - 1)), cs)
    else (if c == 47 && d == 42 then (Some (nested + 1), cs) else (Some nested, d ∷ cs))

abbrev pub has_comments : Place → Bool
has_comments Start = true
has_comments Later = true
has_comments BackslashLine = false

-- what follows a comment that has to end
abbrev pub after_ended : Option (List ℕ) → Outcome (Option (List ℕ))
after_ended (Some cs) = Ok (Some cs)
after_ended None = Err syntax_error

-- the characters after the comment that they begin with: `--` up to the line feed, or `/*` up to its `*/`
unfoldable pub after_comment : List ℕ → Outcome (Option (List ℕ))
after_comment [] = Ok None
after_comment (c ∷ []) = Ok None
after_comment (c ∷ d ∷ cs) =
    if c == 45 && d == 45 then Ok (Some (after_run InLine cs))
    else (if c == 47 && d == 42 then after_ended (after_block 0 cs) else Ok None)

-- the characters after the blank or the comment that they begin with
unfoldable pub after_gap : Place → List ℕ → Outcome (Option (List ℕ))
after_gap place [] = Ok None
after_gap place (c ∷ cs) =
    if is_blank c then Ok (Some cs)
    else (if has_comments place then after_comment (c ∷ cs) else Ok None)

-- ---- tokens, each with the characters after it

-- an identifier has at most 63 bytes
unfoldable pub identifier_of : List ℕ → Outcome (List ℕ)
identifier_of name =
    if nat_lt 63 (length name) then Err (record { code = IdentifierTooLong; args = name ∷ [] }) else Ok name

-- ASCII letters are made small
unfoldable pub word_at : List ℕ → Outcome (Token × List ℕ)
word_at cs = do
  name ← identifier_of (encode_utf8_all (map to_ascii_lowercase (run_of InWord cs)))
  Ok (token.Word name, after_run InWord cs)

-- the content with a text before it
abbrev pub text_before : List ℕ → List ℕ × List ℕ → Outcome (List ℕ × List ℕ)
text_before text content = Ok (text ++ content.0, content.1)

-- the characters after a character of the content, or none after the quote that stands alone
abbrev pub after_character : ℕ → ℕ → List ℕ → Option (List ℕ)
after_character quote c [] = if c == quote then None else Some []
after_character quote c (d ∷ cs) = if c == quote then (if d == quote then Some cs else None) else Some (d ∷ cs)

-- the content up to the quote that stands alone, in which a doubled quote is one
unfoldable pub content_at : ℕ → List ℕ → Outcome (List ℕ × List ℕ)
content_at quote [] = Err syntax_error
content_at quote (c ∷ []) = if c == quote then Ok ([], []) else Err syntax_error
content_at quote (c ∷ d ∷ cs) =
    if c == quote then (if d == quote then content_at quote cs >>= text_before (encode_utf8 c) else Ok ([], d ∷ cs))
    else content_at quote (d ∷ cs) >>= text_before (encode_utf8 c)

-- a quoted identifier isn't empty
abbrev pub quoted_of : List ℕ → Outcome (List ℕ)
quoted_of content = if length content == 0 then Err syntax_error else identifier_of content

unfoldable pub quoted_at : List ℕ → Outcome (Token × List ℕ)
quoted_at cs = do
  content ← content_at 34 cs
  name ← quoted_of content.0
  Ok (token.Quoted name, content.1)

unfoldable pub text_at : List ℕ → Outcome (Token × List ℕ)
text_at cs = do
  content ← content_at 39 cs
  Ok (token.Text content.0, content.1)

-- the characters begin with an ASCII letter or `_`
abbrev pub begins_letter : List ℕ → Bool
begins_letter [] = false
begins_letter (c ∷ cs) = is_ascii_alphabetic c || c == 95

-- no letter and no `_` stands directly after a number
unfoldable pub number_at : List ℕ → Outcome (Token × List ℕ)
number_at cs =
    if begins_letter (after_run Digit cs) then Err syntax_error
    else Ok (token.Number (encode_utf8_all (run_of Digit cs)), after_run Digit cs)

-- after its `$` a parameter has a digit at least
unfoldable pub param_at : List ℕ → Outcome (Token × List ℕ)
param_at cs =
    if length (run_of Digit cs) == 0 then Err syntax_error
    else Ok (token.Param (encode_utf8_all (run_of Digit cs)), after_run Digit cs)

-- after its `\` a backslash command has letters, or none
unfoldable pub backslash_at : List ℕ → Outcome (Token × List ℕ)
backslash_at cs = Ok (token.Backslash (encode_utf8_all (run_of Letter cs)), after_run Letter cs)

-- `<>` and `!=`, `<=`, `>=`
abbrev pub long_sign : ℕ → ℕ → Option Sign
long_sign c d =
    if c == 60 && d == 62 || c == 33 && d == 61 then Some NotEqual
    else (if c == 60 && d == 61 then Some LessEqual
    else (if c == 62 && d == 61 then Some GreaterEqual else None))

-- `= < > + - * / ( ) , .`
abbrev pub short_sign : ℕ → Option Sign
short_sign c =
    if c == 61 then Some Equal else (if c == 60 then Some Less else (if c == 62 then Some Greater
    else (if c == 43 then Some Plus else (if c == 45 then Some Minus else (if c == 42 then Some Star
    else (if c == 47 then Some Slash else (if c == 40 then Some LeftParen else (if c == 41 then Some RightParen
    else (if c == 44 then Some Comma else (if c == 46 then Some Dot else None))))))))))

-- the sign where there is one, or else another outcome
abbrev pub sign_or : Option Sign → List ℕ → Outcome (Token × List ℕ) → Outcome (Token × List ℕ)
sign_or (Some sign) rest other = Ok (token.Sign sign, rest)
sign_or None rest other = other

unfoldable pub sign_at : List ℕ → Outcome (Token × List ℕ)
sign_at [] = Err syntax_error
sign_at (c ∷ []) = sign_or (short_sign c) [] (Err syntax_error)
sign_at (c ∷ d ∷ cs) = sign_or (long_sign c d) cs (sign_or (short_sign c) (d ∷ cs) (Err syntax_error))

abbrev pub is_start : Place → Bool
is_start Start = true
is_start Later = false
is_start BackslashLine = false

-- the first character tells the kind of the token: `\`, `'`, `"`, `$`, a word's, a digit, or else a sign's
unfoldable pub token_at : Place → List ℕ → Outcome (Token × List ℕ)
token_at place [] = Err syntax_error
token_at place (c ∷ cs) =
    if is_start place && c == 92 then backslash_at cs
    else (if c == 39 then text_at cs
    else (if c == 34 then quoted_at cs
    else (if c == 36 then param_at cs
    else (if begins_word c then word_at (c ∷ cs)
    else (if is_ascii_digit c then number_at (c ∷ cs) else sign_at (c ∷ cs))))))

-- ---- the whole text

-- a blank or a comment where one was found, which is no token, or else the token
abbrev pub piece_of : Option (List ℕ) → Outcome (Token × List ℕ) → Outcome (Option Token × List ℕ)
piece_of (Some rest) found = Ok (None, rest)
piece_of None found = found >>= (λ t. Ok (Some t.0, t.1))

unfoldable pub piece_at : Place → List ℕ → Outcome (Option Token × List ℕ)
piece_at place cs = do
  gap ← after_gap place cs
  piece_of gap (token_at place cs)

-- the place behind a token
abbrev pub behind : Place → Token → Place
behind BackslashLine found = BackslashLine
behind Start (token.Backslash letters) = BackslashLine
behind Later (token.Backslash letters) = BackslashLine
behind place found = Later

abbrev pub behind_piece : Place → Option Token → Place
behind_piece place None = place
behind_piece place (Some found) = behind place found

-- the tokens with others before them
abbrev pub tokens_before : List Token → List Token → Outcome (List Token)
tokens_before found more = Ok (found ++ more)

-- the token of a piece, if it has one, and then the others of the characters after it
abbrev pub piece_then : (Place → List ℕ → Outcome (List Token)) → Place → Option Token × List ℕ → Outcome (List Token)
piece_then others place piece = others (behind_piece place piece.0) piece.1 >>= tokens_before (option_to_list piece.0)

-- the tokens of the first pieces, so many of them
unfoldable pub tokens_from : ℕ → Place → List ℕ → Outcome (List Token)
tokens_from zero place cs = Ok []
tokens_from (suc pieces) place [] = Ok []
tokens_from (suc pieces) place (c ∷ cs) = piece_at place (c ∷ cs) >>= piece_then (tokens_from pieces) place

-- the tokens of all pieces: there are at most as many as characters
abbrev pub all_tokens : Place → List ℕ → Outcome (List Token)
all_tokens place cs = tokens_from (length cs) place cs

-- the token of the first piece, and then those of all others
abbrev pub first_and_others : Place → List ℕ → Outcome (List Token)
first_and_others place cs = piece_at place cs >>= piece_then all_tokens place

-- the tokens of a text, or its first refusal
unfoldable pub tokens_of : List ℕ → Outcome (List Token)
tokens_of text = all_tokens Start (chars text)

-- ---- what a function that reads ensures: the outcome, unless memory was refused

abbrev pub Gives : {A : Type 0} → Outcome A → Result A Stop → Type 0
Gives outcome result = MatchResult result (λ a. outcome ≡ Ok a) (StopsBy (λ e. outcome ≡ Err e))

-- the same of what was read and the characters after it
abbrev pub Takes : {A : Type 0} → Outcome (A × List ℕ) → Result (A × Bor (List ℕ)) Stop → Type 0
Takes outcome result = MatchResult result (λ taken. outcome ≡ Ok (taken.0, taken.1.now)) (StopsBy (λ e. outcome ≡ Err e))

-- the same of what follows a blank or a comment
abbrev pub Passes : Outcome (Option (List ℕ)) → Result (Option (Bor (List ℕ))) Stop → Type 0
Passes outcome result = MatchResult result (λ rest. outcome ≡ Ok (option_copied rest)) (StopsBy (λ e. outcome ≡ Err e))
