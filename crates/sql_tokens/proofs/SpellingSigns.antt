use Rattle.std.proofs.Common.{◌≡◌, ◌≢◌, ℕ, suc, ◌+◌, ◌==◌, ◌≤◌, ◌⊎◌, inl, inr, ⊎_elim, ◌&&◌, ◌||◌, cond, not, Bool, true, false, List, [], ◌∷◌, ◌++◌, length, take, encode_utf8_all, Option, Some, None, Ok, Err, refl, sym, ap, ap₂, ◌∙◌, subst, one-add, ne_eqb, eqb-true, arith}
use Rattle.std.proofs.lemmas.Bool.{cond_both, or_cases}
use Rattle.std.specs.Char.{is_ascii_alphabetic, is_ascii_digit}
use Rattle.std.specs.List.{prefix_len}
use Rattle.sql_tokens.specs.declared.lexer.Place.{Place}
use Rattle.sql_tokens.specs.declared.lexer.Place.TheVariants.{Start}
use Rattle.sql_tokens.specs.declared.lexer.characters.Class.TheVariants.{Digit, Letter}
use Rattle.sql_tokens.specs.declared.token.Sign.{Sign}
use Rattle.sql_tokens.specs.declared.token.Sign.TheVariants.{Equal, NotEqual, Less, LessEqual, Greater, GreaterEqual, Plus, Minus, Star, Slash, LeftParen, RightParen, Comma, Dot}
use Rattle.sql_tokens.specs.declared.token.Token.TheVariants as token
use Rattle.sql_tokens.specs.Tokens.{syntax_error, run_of, after_run, begins_letter, number_at, param_at, backslash_at, long_sign, short_sign, sign_or, sign_at}
use Rattle.sql_tokens.specs.Spelling.{next_is, IsRun, is_letter, IsSign, HasSign, begins_comment, IsToken, is_other, IsRefused}
use Rattle.sql_tokens.proofs.SpellingRuns.{run_of-sound, run_of-complete, after_run-complete}
use Rattle.sql_tokens.proofs.SpellingGaps.{two_are}
use Rattle.sql_tokens.proofs.SpellingWords.{TokenMeans}

-- ---- numbers

letter_is : (cs : List ℕ) → begins_letter cs ≡ next_is is_letter cs
letter_is [] = refl
letter_is (c ∷ cs) = refl

pub number_at-sound : (place : Place) (cs : List ℕ) → next_is is_ascii_digit cs ≡ true → TokenMeans place cs (number_at cs)
unfolding number_at
number_at-sound place cs begun =
    cond_both (begins_letter (after_run Digit cs)) _ _ (TokenMeans place cs)
    (λ letter. IsRefused.number cs _ _ begun (run_of-sound Digit cs) (sym (letter_is (after_run Digit cs)) ∙ letter))
    (λ no_letter. IsToken.number cs _ _ begun (run_of-sound Digit cs) (sym (letter_is (after_run Digit cs)) ∙ no_letter))

number_from : {cs digits rest : List ℕ} → IsRun is_ascii_digit cs digits rest → number_at cs ≡ cond (next_is is_letter rest) (Err syntax_error) (Ok (token.Number (encode_utf8_all digits), rest))
unfolding number_at
number_from {cs} {digits} {rest} run =
    ap₂ (λ (xs ys : List ℕ). cond (begins_letter ys) (Err syntax_error) (Ok (token.Number (encode_utf8_all xs), ys))) (run_of-complete Digit run) (after_run-complete Digit run)
    ∙ ap (λ (b : Bool). cond b (Err syntax_error) (Ok (token.Number (encode_utf8_all digits), rest))) (letter_is rest)

pub number_at-complete : {cs digits rest : List ℕ} → IsRun is_ascii_digit cs digits rest → next_is is_letter rest ≡ false → number_at cs ≡ Ok (token.Number (encode_utf8_all digits), rest)
number_at-complete {cs} {digits} {rest} run no_letter = number_from run ∙ ap (λ (b : Bool). cond b (Err syntax_error) (Ok (token.Number (encode_utf8_all digits), rest))) no_letter

pub number_at-letter : {cs digits rest : List ℕ} → IsRun is_ascii_digit cs digits rest → next_is is_letter rest ≡ true → number_at cs ≡ Err syntax_error
number_at-letter {cs} {digits} {rest} run letter = number_from run ∙ ap (λ (b : Bool). cond b (Err syntax_error) (Ok (token.Number (encode_utf8_all digits), rest))) letter

-- ---- parameters and backslash commands

none_by_test : (c n : ℕ) (cs : List ℕ) (b : Bool) → (length (take (cond b (1 + n) 0) (c ∷ cs)) == 0) ≡ not b
none_by_test c n cs true = rw one-add (ne_eqb (suc (length (take n cs))) 0 (λ e. omega arith))
none_by_test c n cs false = refl

no_digits : (cs : List ℕ) → (length (run_of Digit cs) == 0) ≡ not (next_is is_ascii_digit cs)
no_digits [] = refl
no_digits (c ∷ cs) = none_by_test c (prefix_len is_ascii_digit cs) cs (is_ascii_digit c)

param_from : (cs : List ℕ) → param_at cs ≡ cond (not (next_is is_ascii_digit cs)) (Err syntax_error) (Ok (token.Param (encode_utf8_all (run_of Digit cs)), after_run Digit cs))
unfolding param_at
param_from cs = ap (λ (b : Bool). cond b (Err syntax_error) (Ok (token.Param (encode_utf8_all (run_of Digit cs)), after_run Digit cs))) (no_digits cs)

param_by_test : (place : Place) (cs : List ℕ) (b : Bool) → next_is is_ascii_digit cs ≡ b → TokenMeans place (36 ∷ cs) (cond (not b) (Err syntax_error) (Ok (token.Param (encode_utf8_all (run_of Digit cs)), after_run Digit cs)))
param_by_test place cs true begun = IsToken.param cs _ _ begun (run_of-sound Digit cs)
param_by_test place cs false none = IsRefused.param cs none

pub param_at-sound : (place : Place) (cs : List ℕ) → TokenMeans place (36 ∷ cs) (param_at cs)
param_at-sound place cs = subst (TokenMeans place (36 ∷ cs)) (sym (param_from cs)) (param_by_test place cs (next_is is_ascii_digit cs) refl)

pub param_at-complete : {cs digits rest : List ℕ} → next_is is_ascii_digit cs ≡ true → IsRun is_ascii_digit cs digits rest → param_at cs ≡ Ok (token.Param (encode_utf8_all digits), rest)
param_at-complete {cs} begun run =
    param_from cs
    ∙ ap (λ (b : Bool). cond (not b) (Err syntax_error) (Ok (token.Param (encode_utf8_all (run_of Digit cs)), after_run Digit cs))) begun
    ∙ ap₂ (λ (xs ys : List ℕ). Ok (token.Param (encode_utf8_all xs), ys)) (run_of-complete Digit run) (after_run-complete Digit run)

pub param_at-none : (cs : List ℕ) → next_is is_ascii_digit cs ≡ false → param_at cs ≡ Err syntax_error
param_at-none cs none = param_from cs ∙ ap (λ (b : Bool). cond (not b) (Err syntax_error) (Ok (token.Param (encode_utf8_all (run_of Digit cs)), after_run Digit cs))) none

pub backslash_at-sound : (cs : List ℕ) → TokenMeans Start (92 ∷ cs) (backslash_at cs)
unfolding backslash_at
backslash_at-sound cs = IsToken.backslash cs _ _ refl (run_of-sound Letter cs)

pub backslash_at-complete : {cs letters rest : List ℕ} → IsRun is_ascii_alphabetic cs letters rest → backslash_at cs ≡ Ok (token.Backslash (encode_utf8_all letters), rest)
unfolding backslash_at
backslash_at-complete run = ap₂ (λ (xs ys : List ℕ). Ok (token.Backslash (encode_utf8_all xs), ys)) (run_of-complete Letter run) (after_run-complete Letter run)

-- ---- signs

-- a sign that stands there has one character or two, the first of which begins nothing else
record ShortAt (cs : List ℕ) (sign : Sign) (rest : List ℕ) : Type 0 where
  c : ℕ
  are : cs ≡ c ∷ rest
  found : short_sign c ≡ Some sign
  other : is_other c ≡ true
  differs : (c == 92) ≡ false

record LongAt (cs : List ℕ) (sign : Sign) (rest : List ℕ) : Type 0 where
  c : ℕ
  d : ℕ
  are : cs ≡ c ∷ d ∷ rest
  found : long_sign c d ≡ Some sign
  other : is_other c ≡ true
  differs : (c == 92) ≡ false

abbrev SignAt : List ℕ → Sign → List ℕ → Type 0
SignAt cs sign rest = ShortAt cs sign rest ⊎ LongAt cs sign rest

short_case : (c : ℕ) {cs rest text : List ℕ} {sign : Sign} → cs ≡ text ++ rest → text ≡ c ∷ [] → short_sign c ≡ Some sign → is_other c ≡ true → (c == 92) ≡ false → SignAt cs sign rest
short_case c {rest = rest} parts is found other differs = inl (record { c = c; are = parts ∙ ap (λ (xs : List ℕ). xs ++ rest) is; found = found; other = other; differs = differs })

long_case : (c d : ℕ) {cs rest text : List ℕ} {sign : Sign} → cs ≡ text ++ rest → text ≡ c ∷ d ∷ [] → long_sign c d ≡ Some sign → is_other c ≡ true → (c == 92) ≡ false → SignAt cs sign rest
long_case c d {rest = rest} parts is found other differs = inr (record { c = c; d = d; are = parts ∙ ap (λ (xs : List ℕ). xs ++ rest) is; found = found; other = other; differs = differs })

sign_cases : (sign : Sign) (cs text rest : List ℕ) → cs ≡ text ++ rest → IsSign sign text → SignAt cs sign rest
sign_cases Equal cs text rest parts h = short_case 61 parts h refl refl refl
sign_cases NotEqual cs text rest parts (inl h) = long_case 60 62 parts h refl refl refl
sign_cases NotEqual cs text rest parts (inr h) = long_case 33 61 parts h refl refl refl
sign_cases Less cs text rest parts h = short_case 60 parts h refl refl refl
sign_cases LessEqual cs text rest parts h = long_case 60 61 parts h refl refl refl
sign_cases Greater cs text rest parts h = short_case 62 parts h refl refl refl
sign_cases GreaterEqual cs text rest parts h = long_case 62 61 parts h refl refl refl
sign_cases Plus cs text rest parts h = short_case 43 parts h refl refl refl
sign_cases Minus cs text rest parts h = short_case 45 parts h refl refl refl
sign_cases Star cs text rest parts h = short_case 42 parts h refl refl refl
sign_cases Slash cs text rest parts h = short_case 47 parts h refl refl refl
sign_cases LeftParen cs text rest parts h = short_case 40 parts h refl refl refl
sign_cases RightParen cs text rest parts h = short_case 41 parts h refl refl refl
sign_cases Comma cs text rest parts h = short_case 44 parts h refl refl refl
sign_cases Dot cs text rest parts h = short_case 46 parts h refl refl refl

has_cases : {cs rest : List ℕ} {sign : Sign} → HasSign cs sign rest → SignAt cs sign rest
has_cases {cs} {rest} {sign} has = sign_cases sign cs has.text rest has.parts has.written

abbrev SignMeans : List ℕ → Option Sign → Type 0
SignMeans text (Some sign) = IsSign sign text
SignMeans text None = Unit {0}

-- the sign of that character, where the test holds
one_of : (c k : ℕ) (sign : Sign) (others : Option Sign) → IsSign sign (k ∷ []) → SignMeans (c ∷ []) others → SignMeans (c ∷ []) (cond (c == k) (Some sign) others)
one_of c k sign others is more = cond_both (c == k) _ _ (SignMeans (c ∷ [])) (λ e. subst (λ (x : ℕ). IsSign sign (x ∷ [])) (sym (eqb-true c k e)) is) (λ _. more)

short_sign-sound : (c : ℕ) → SignMeans (c ∷ []) (short_sign c)
short_sign-sound c =
    one_of c 61 Equal _ refl (one_of c 60 Less _ refl (one_of c 62 Greater _ refl (one_of c 43 Plus _ refl (one_of c 45 Minus _ refl (one_of c 42 Star _ refl
    (one_of c 47 Slash _ refl (one_of c 40 LeftParen _ refl (one_of c 41 RightParen _ refl (one_of c 44 Comma _ refl (one_of c 46 Dot _ refl tt))))))))))

long_sign-sound : (c d : ℕ) → SignMeans (c ∷ d ∷ []) (long_sign c d)
long_sign-sound c d =
    cond_both (c == 60 && d == 62 || c == 33 && d == 61) _ _ (SignMeans (c ∷ d ∷ []))
    (λ e. ⊎_elim (λ l. two_are 60 62 c d (λ x y. IsSign NotEqual (x ∷ y ∷ [])) l (inl refl)) (λ r. two_are 33 61 c d (λ x y. IsSign NotEqual (x ∷ y ∷ [])) r (inr refl)) (or_cases (c == 60 && d == 62) (c == 33 && d == 61) e))
    (λ _. cond_both (c == 60 && d == 61) _ _ (SignMeans (c ∷ d ∷ []))
    (λ e. two_are 60 61 c d (λ x y. IsSign LessEqual (x ∷ y ∷ [])) e refl)
    (λ _. cond_both (c == 62 && d == 61) _ _ (SignMeans (c ∷ d ∷ []))
    (λ e. two_are 62 61 c d (λ x y. IsSign GreaterEqual (x ∷ y ∷ [])) e refl)
    (λ _. tt)))

has_short : {c : ℕ} {cs rest : List ℕ} {sign : Sign} → cs ≡ c ∷ rest → short_sign c ≡ Some sign → HasSign cs sign rest
has_short {c} are found = record { text = c ∷ []; parts = are; written = subst (SignMeans (c ∷ [])) found (short_sign-sound c) }

has_long : {c d : ℕ} {cs rest : List ℕ} {sign : Sign} → cs ≡ c ∷ d ∷ rest → long_sign c d ≡ Some sign → HasSign cs sign rest
has_long {c} {d} are found = record { text = c ∷ d ∷ []; parts = are; written = subst (SignMeans (c ∷ d ∷ [])) found (long_sign-sound c d) }

abbrev Longest : List ℕ → List ℕ → Type 0
Longest cs rest = (other : Sign) (less : List ℕ) → HasSign cs other less → length rest ≤ length less

abbrev NoSign : List ℕ → Type 0
NoSign cs = (sign : Sign) (rest : List ℕ) → ¬ HasSign cs sign rest

long_longest : (c d : ℕ) (cs : List ℕ) → Longest (c ∷ d ∷ cs) cs
long_longest c d cs other less has =
    ⊎_elim
    (λ s. let e = ap (λ (xs : List ℕ). length xs) s.are in omega arith)
    (λ l. let e = ap (λ (xs : List ℕ). length xs) l.are in omega arith)
    (has_cases has)

-- no sign of two characters stands there
abbrev NoLong : List ℕ → Type 0
NoLong cs = (sign : Sign) (rest : List ℕ) → ¬ LongAt cs sign rest

short_longest : (c : ℕ) (cs : List ℕ) → NoLong (c ∷ cs) → Longest (c ∷ cs) cs
short_longest c cs none other less has =
    ⊎_elim
    (λ s. let e = ap (λ (xs : List ℕ). length xs) s.are in omega arith)
    (λ l. absurd (none other less l))
    (has_cases has)

no_long_one : (c : ℕ) → NoLong (c ∷ [])
no_long_one c sign rest l = let e = l.are in cc

no_long_two : (c d : ℕ) (cs : List ℕ) → long_sign c d ≡ None → NoLong (c ∷ d ∷ cs)
no_long_two c d cs none sign rest l = let e = l.are in let f = l.found in cc

no_sign : (c : ℕ) (cs : List ℕ) → short_sign c ≡ None → NoLong (c ∷ cs) → NoSign (c ∷ cs)
no_sign c cs none no_long sign rest has = ⊎_elim (λ s. let e = s.are in let f = s.found in cc) (λ l. no_long sign rest l) (has_cases has)

-- a sign of one character, or none
short_by : (place : Place) (c : ℕ) (cs : List ℕ) (r : Option Sign) → is_other c ≡ true → (place ≡ Start → c ≢ 92) → begins_comment place (c ∷ cs) ≡ false → NoLong (c ∷ cs) → short_sign c ≡ r → TokenMeans place (c ∷ cs) (sign_or r cs (Err syntax_error))
short_by place c cs (Some sign) other differs no_comment no_long found = IsToken.sign (c ∷ cs) sign cs no_comment (has_short refl found) (short_longest c cs no_long)
short_by place c cs None other differs no_comment no_long none = IsRefused.other c cs other differs (no_sign c cs none no_long)

long_by : (place : Place) (c d : ℕ) (cs : List ℕ) (r : Option Sign) → is_other c ≡ true → (place ≡ Start → c ≢ 92) → begins_comment place (c ∷ d ∷ cs) ≡ false → long_sign c d ≡ r → TokenMeans place (c ∷ d ∷ cs) (sign_or r cs (sign_or (short_sign c) (d ∷ cs) (Err syntax_error)))
long_by place c d cs (Some sign) other differs no_comment found = IsToken.sign (c ∷ d ∷ cs) sign cs no_comment (has_long refl found) (long_longest c d cs)
long_by place c d cs None other differs no_comment none = short_by place c (d ∷ cs) (short_sign c) other differs no_comment (no_long_two c d cs none) refl

pub sign_at-sound : (place : Place) (c : ℕ) (cs : List ℕ) → is_other c ≡ true → (place ≡ Start → c ≢ 92) → begins_comment place (c ∷ cs) ≡ false → TokenMeans place (c ∷ cs) (sign_at (c ∷ cs))
unfolding sign_at
sign_at-sound place c [] other differs no_comment = short_by place c [] (short_sign c) other differs no_comment (no_long_one c) refl
sign_at-sound place c (d ∷ cs) other differs no_comment = long_by place c d cs (long_sign c d) other differs no_comment refl

short_first : (c : ℕ) (rest : List ℕ) (sign : Sign) → short_sign c ≡ Some sign → Longest (c ∷ rest) rest → sign_at (c ∷ rest) ≡ Ok (token.Sign sign, rest)
unfolding sign_at
short_first c [] sign found longest = ap (λ (o : Option Sign). sign_or o [] (Err syntax_error)) found
short_first c (d ∷ rest) sign found longest = by_long (long_sign c d) refl
  where
    by_long : (o : Option Sign) → long_sign c d ≡ o → sign_or o rest (sign_or (short_sign c) (d ∷ rest) (Err syntax_error)) ≡ Ok (token.Sign sign, d ∷ rest)
    by_long (Some other) found_long = let shorter = longest other rest (has_long refl found_long) in absurd (omega arith)
    by_long None none = ap (λ (o : Option Sign). sign_or o (d ∷ rest) (Err syntax_error)) found

long_first : (c d : ℕ) (rest : List ℕ) (sign : Sign) → long_sign c d ≡ Some sign → sign_at (c ∷ d ∷ rest) ≡ Ok (token.Sign sign, rest)
unfolding sign_at
long_first c d rest sign found = ap (λ (o : Option Sign). sign_or o rest (sign_or (short_sign c) (d ∷ rest) (Err syntax_error))) found

pub sign_at-complete : {cs rest : List ℕ} {sign : Sign} → HasSign cs sign rest → ((other : Sign) (less : List ℕ) → HasSign cs other less → length rest ≤ length less) → sign_at cs ≡ Ok (token.Sign sign, rest)
sign_at-complete {cs} {rest} {sign} has longest =
    ⊎_elim
    (λ s. ap sign_at s.are ∙ short_first s.c rest sign s.found (subst (λ (xs : List ℕ). Longest xs rest) s.are longest))
    (λ l. ap sign_at l.are ∙ long_first l.c l.d rest sign l.found)
    (has_cases has)

no_short : (c : ℕ) (cs : List ℕ) (o : Option Sign) → short_sign c ≡ o → NoSign (c ∷ cs) → o ≡ None
no_short c cs (Some sign) found none = absurd (none sign cs (has_short refl found))
no_short c cs None found none = refl

no_long : (c d : ℕ) (cs : List ℕ) (o : Option Sign) → long_sign c d ≡ o → NoSign (c ∷ d ∷ cs) → o ≡ None
no_long c d cs (Some sign) found none = absurd (none sign cs (has_long refl found))
no_long c d cs None found none = refl

pub sign_at-none : (c : ℕ) (cs : List ℕ) → ((sign : Sign) (rest : List ℕ) → ¬ HasSign (c ∷ cs) sign rest) → sign_at (c ∷ cs) ≡ Err syntax_error
unfolding sign_at
sign_at-none c [] none = ap (λ (o : Option Sign). sign_or o [] (Err syntax_error)) (no_short c [] (short_sign c) refl none)
sign_at-none c (d ∷ cs) none =
    ap₂ (λ (o p : Option Sign). sign_or o cs (sign_or p (d ∷ cs) (Err syntax_error))) (no_long c d cs (long_sign c d) refl none) (no_short c (d ∷ cs) (short_sign c) refl none)

-- a sign's first character
pub record Front (cs : List ℕ) : Type 0 where
  pub c : ℕ
  pub more : List ℕ
  pub are : cs ≡ c ∷ more
  pub other : is_other c ≡ true
  pub differs : (c == 92) ≡ false

pub sign_front : {cs rest : List ℕ} {sign : Sign} → HasSign cs sign rest → Front cs
sign_front {cs} {rest} {sign} has =
    ⊎_elim
    (λ s. record { c = s.c; more = rest; are = s.are; other = s.other; differs = s.differs })
    (λ l. record { c = l.c; more = l.d ∷ rest; are = l.are; other = l.other; differs = l.differs })
    (has_cases has)
