use Rattle.std.proofs.Common.{◌≡◌, ◌≢◌, ℕ, ◌<◌, ◌==◌, ◌&&◌, ◌||◌, cond, not, Bool, true, false, List, [], ◌∷◌, length, encode_utf8_all, Option, Some, None, Ok, Err, refl, sym, ap, ap₂, ◌∙◌, subst, ne_eqb, eqb-true, arith}
use Rattle.std.proofs.lemmas.Bool.{cond_both, or_parts, not-true, eqb-false, false≢true, true≢false}
use Rattle.std.proofs.lemmas.Bool.Decides.{nat_tests}
use Rattle.std.proofs.lemmas.Grind.{common_steps}
use Rattle.std.specs.Char.{is_ascii_digit}
use Rattle.q_base.specs.declared.errors.SqlError.{SqlError}
use Rattle.sql_tokens.specs.declared.lexer.Place.{Place}
use Rattle.sql_tokens.specs.declared.lexer.Place.TheVariants.{Start, Later, BackslashLine}
use Rattle.sql_tokens.specs.declared.token.Sign.{Sign}
use Rattle.sql_tokens.specs.declared.token.Sign.TheVariants.{Minus, Slash}
use Rattle.sql_tokens.specs.declared.token.Token.{Token}
use Rattle.sql_tokens.specs.declared.token.Token.TheVariants as token
use Rattle.sql_tokens.specs.Tokens.{Outcome, ◌>>=◌, syntax_error, is_blank, begins_word, after_gap, word_at, quoted_at, text_at, number_at, param_at, backslash_at, sign_at, is_start, token_at, piece_of, piece_at}
use Rattle.sql_tokens.specs.Spelling.{next_is, begins_comment, IsGap, IsSign, HasSign, IsToken, is_other, IsRefused}
use Rattle.sql_tokens.proofs.SpellingGaps.{GapMeans, after_gap-sound, after_gap-blank, after_gap-complete, after_gap-unended, after_gap-none, begins_comment-not}
use Rattle.sql_tokens.proofs.SpellingWords.{TokenMeans, word_at-sound, word_at-complete, word_at-long, text_at-sound, text_at-complete, text_at-unended, quoted_at-sound, quoted_at-complete, quoted_at-long, quoted_at-empty, quoted_at-unended}
use Rattle.sql_tokens.proofs.SpellingSigns.{number_at-sound, number_at-complete, number_at-letter, param_at-sound, param_at-complete, param_at-none, backslash_at-sound, backslash_at-complete, sign_at-sound, sign_at-complete, sign_at-none, Front, sign_front}

-- ---- what the reading functions give is a token or a refusal

none_of : (a b c d e f : Bool) → a ≡ false → b ≡ false → c ≡ false → d ≡ false → e ≡ false → f ≡ false → (a || b || c || d || e || f) ≡ false
none_of a b c d e f ha hb hc hd he hf = ap₂ (λ (x y : Bool). x || y) (ap₂ (λ (x y : Bool). x || y) (ap₂ (λ (x y : Bool). x || y) (ap₂ (λ (x y : Bool). x || y) (ap₂ (λ (x y : Bool). x || y) ha hb) hc) hd) he) hf

at_code : (place : Place) (k c : ℕ) (cs : List ℕ) (r : Outcome (Token × List ℕ)) → (c == k) ≡ true → TokenMeans place (k ∷ cs) r → TokenMeans place (c ∷ cs) r
at_code place k c cs r same h = subst (λ (x : ℕ). TokenMeans place (x ∷ cs) r) (sym (eqb-true c k same)) h

backslash_here : (place : Place) (c : ℕ) (cs : List ℕ) → (is_start place && c == 92) ≡ true → TokenMeans place (c ∷ cs) (backslash_at cs)
backslash_here Start c cs same = at_code Start 92 c cs (backslash_at cs) same (backslash_at-sound cs)
backslash_here Later c cs same = absurd (false≢true same)
backslash_here BackslashLine c cs same = absurd (false≢true same)

no_backslash : (place : Place) (c : ℕ) → (is_start place && c == 92) ≡ false → place ≡ Start → c ≢ 92
no_backslash Start c differs start = eqb-false c 92 differs
no_backslash Later c differs start = absurd (cc)
no_backslash BackslashLine c differs start = absurd (cc)

token_at-sound : (place : Place) (c : ℕ) (cs : List ℕ) → is_blank c ≡ false → begins_comment place (c ∷ cs) ≡ false → TokenMeans place (c ∷ cs) (token_at place (c ∷ cs))
unfolding token_at
token_at-sound place c cs no_blank no_comment =
    cond_both (is_start place && c == 92) _ _ (TokenMeans place (c ∷ cs)) (λ e. backslash_here place c cs e)
    (λ start. cond_both (c == 39) _ _ (TokenMeans place (c ∷ cs)) (λ e. at_code place 39 c cs (text_at cs) e (text_at-sound place cs))
    (λ text. cond_both (c == 34) _ _ (TokenMeans place (c ∷ cs)) (λ e. at_code place 34 c cs (quoted_at cs) e (quoted_at-sound place cs))
    (λ quoted. cond_both (c == 36) _ _ (TokenMeans place (c ∷ cs)) (λ e. at_code place 36 c cs (param_at cs) e (param_at-sound place cs))
    (λ param. cond_both (begins_word c) _ _ (TokenMeans place (c ∷ cs)) (λ e. word_at-sound place (c ∷ cs) e)
    (λ word. cond_both (is_ascii_digit c) _ _ (TokenMeans place (c ∷ cs)) (λ e. number_at-sound place (c ∷ cs) e)
    (λ digit. sign_at-sound place c cs (ap not (none_of _ _ _ _ _ _ no_blank word digit param text quoted)) (no_backslash place c start) no_comment))))))

-- what a piece means
abbrev pub Stands : Place → List ℕ → Option Token → List ℕ → Type 0
Stands place cs None rest = IsGap place cs rest
Stands place cs (Some found) rest = IsToken place cs found rest

abbrev pub PieceMeans : Place → List ℕ → Outcome (Option Token × List ℕ) → Type 0
PieceMeans place cs (Ok piece) = Stands place cs piece.0 piece.1
PieceMeans place cs (Err e) = IsRefused place cs e

some_token : (place : Place) (cs : List ℕ) (r : Outcome (Token × List ℕ)) → TokenMeans place cs r → PieceMeans place cs (r >>= (λ t. Ok (Some t.0, t.1)))
some_token place cs (Ok found) h = h
some_token place cs (Err e) h = h

piece_by : (place : Place) (cs : List ℕ) (gap : Outcome (Option (List ℕ))) → GapMeans place cs gap → (begins_comment place cs ≡ false → TokenMeans place cs (token_at place cs)) → PieceMeans place cs (gap >>= (λ g. piece_of g (token_at place cs)))
piece_by place cs (Ok (Some rest)) h at_none = h
piece_by place cs (Ok None) h at_none = some_token place cs (token_at place cs) (at_none h)
piece_by place cs (Err e) h at_none = h

pub piece_at-sound : (place : Place) (c : ℕ) (cs : List ℕ) → PieceMeans place (c ∷ cs) (piece_at place (c ∷ cs))
unfolding piece_at
piece_at-sound place c cs = by_blank (is_blank c) refl
  where
    by_blank : (b : Bool) → is_blank c ≡ b → PieceMeans place (c ∷ cs) (after_gap place (c ∷ cs) >>= (λ g. piece_of g (token_at place (c ∷ cs))))
    by_blank true blank = subst (λ (gap : Outcome (Option (List ℕ))). PieceMeans place (c ∷ cs) (gap >>= (λ g. piece_of g (token_at place (c ∷ cs))))) (sym (after_gap-blank place c cs blank)) (IsGap.blank c cs blank)
    by_blank false no_blank = piece_by place (c ∷ cs) (after_gap place (c ∷ cs)) (after_gap-sound place c cs no_blank) (token_at-sound place c cs no_blank)

-- ---- a token or a refusal is what the reading functions give

skip : {A : Type 0} (b : Bool) (x y : A) {z : A} → b ≡ false → y ≡ z → cond b x y ≡ z
skip b x y other same = ap (λ (t : Bool). cond t x y) other ∙ same

hit : {A : Type 0} (b : Bool) (x y : A) → b ≡ true → cond b x y ≡ x
hit b x y same = ap (λ (t : Bool). cond t x y) same

not_code : (class : ℕ → Bool) (k c : ℕ) → class k ≡ false → class c ≡ true → (c == k) ≡ false
not_code class k c other is = ne_eqb c k (λ e. true≢false (sym is ∙ ap class e ∙ other))

not_blank : (class : ℕ → Bool) (c : ℕ) → class 32 ≡ false → class 9 ≡ false → class 10 ≡ false → class 12 ≡ false → class 13 ≡ false → class c ≡ true → is_blank c ≡ false
not_blank class c h1 h2 h3 h4 h5 is = none_of false _ _ _ _ _ refl (not_code class 32 c h1 is) (not_code class 9 c h2 is) (not_code class 10 c h3 is) (not_code class 12 c h4 is) (not_code class 13 c h5 is)

not_start : (place : Place) (c : ℕ) → (c == 92) ≡ false → (is_start place && c == 92) ≡ false
not_start Start c other = other
not_start Later c other = refl
not_start BackslashLine c other = refl

token_at-backslash : (cs : List ℕ) → token_at Start (92 ∷ cs) ≡ backslash_at cs
unfolding token_at
token_at-backslash cs = refl

token_at-text : (place : Place) (cs : List ℕ) → token_at place (39 ∷ cs) ≡ text_at cs
unfolding token_at
token_at-text place cs = skip (is_start place && 39 == 92) _ _ (not_start place 39 refl) refl

token_at-quoted : (place : Place) (cs : List ℕ) → token_at place (34 ∷ cs) ≡ quoted_at cs
unfolding token_at
token_at-quoted place cs = skip (is_start place && 34 == 92) _ _ (not_start place 34 refl) refl

token_at-param : (place : Place) (cs : List ℕ) → token_at place (36 ∷ cs) ≡ param_at cs
unfolding token_at
token_at-param place cs = skip (is_start place && 36 == 92) _ _ (not_start place 36 refl) refl

token_at-word : (place : Place) (c : ℕ) (cs : List ℕ) → begins_word c ≡ true → token_at place (c ∷ cs) ≡ word_at (c ∷ cs)
unfolding token_at
token_at-word place c cs is =
    skip (is_start place && c == 92) _ _ (not_start place c (not_code begins_word 92 c refl is))
    (skip (c == 39) _ _ (not_code begins_word 39 c refl is)
    (skip (c == 34) _ _ (not_code begins_word 34 c refl is)
    (skip (c == 36) _ _ (not_code begins_word 36 c refl is)
    (hit (begins_word c) _ _ is))))

digit_no_word : (c : ℕ) → is_ascii_digit c ≡ true → begins_word c ≡ false
digit_no_word c is = grind (arith, common_steps, nat_tests)

token_at-number : (place : Place) (c : ℕ) (cs : List ℕ) → is_ascii_digit c ≡ true → token_at place (c ∷ cs) ≡ number_at (c ∷ cs)
unfolding token_at
token_at-number place c cs is =
    skip (is_start place && c == 92) _ _ (not_start place c (not_code is_ascii_digit 92 c refl is))
    (skip (c == 39) _ _ (not_code is_ascii_digit 39 c refl is)
    (skip (c == 34) _ _ (not_code is_ascii_digit 34 c refl is)
    (skip (c == 36) _ _ (not_code is_ascii_digit 36 c refl is)
    (skip (begins_word c) _ _ (digit_no_word c is)
    (hit (is_ascii_digit c) _ _ is)))))

token_at-sign : (place : Place) (c : ℕ) (cs : List ℕ) → is_other c ≡ true → (is_start place && c == 92) ≡ false → token_at place (c ∷ cs) ≡ sign_at (c ∷ cs)
unfolding token_at
token_at-sign place c cs other start =
    let quoted = or_parts (is_blank c || begins_word c || is_ascii_digit c || c == 36 || c == 39) (c == 34) (not-true _ other) in
    let text = or_parts (is_blank c || begins_word c || is_ascii_digit c || c == 36) (c == 39) quoted.0 in
    let param = or_parts (is_blank c || begins_word c || is_ascii_digit c) (c == 36) text.0 in
    let digit = or_parts (is_blank c || begins_word c) (is_ascii_digit c) param.0 in
    let word = or_parts (is_blank c) (begins_word c) digit.0 in
    skip (is_start place && c == 92) _ _ start
    (skip (c == 39) _ _ text.1 (skip (c == 34) _ _ quoted.1 (skip (c == 36) _ _ param.1 (skip (begins_word c) _ _ word.1 (skip (is_ascii_digit c) _ _ digit.1 refl)))))

other_no_blank : (c : ℕ) → is_other c ≡ true → is_blank c ≡ false
other_no_blank c other = not_blank is_other c refl refl refl refl refl other

-- the first piece, in some characters
abbrev pub Reads : Place → List ℕ → Outcome (Option Token × List ℕ) → Type 0
Reads place cs r = (0 < length cs) × (piece_at place cs ≡ r)

abbrev as_piece : Outcome (Token × List ℕ) → Outcome (Option Token × List ℕ)
as_piece r = r >>= (λ t. Ok (Some t.0, t.1))

reads_gap : (place : Place) (c : ℕ) (cs : List ℕ) (gap : Outcome (Option (List ℕ))) → after_gap place (c ∷ cs) ≡ gap → Reads place (c ∷ cs) (gap >>= (λ g. piece_of g (token_at place (c ∷ cs))))
unfolding piece_at
reads_gap place c cs gap is = (omega arith, ap (λ (gap : Outcome (Option (List ℕ))). gap >>= (λ g. piece_of g (token_at place (c ∷ cs)))) is)

reads_token : (place : Place) (c : ℕ) (cs : List ℕ) (r : Outcome (Token × List ℕ)) → is_blank c ≡ false → begins_comment place (c ∷ cs) ≡ false → token_at place (c ∷ cs) ≡ r → Reads place (c ∷ cs) (as_piece r)
reads_token place c cs r no_blank no_comment is =
    let first = reads_gap place c cs (Ok None) (after_gap-none place c cs no_blank no_comment) in
    (first.0, first.1 ∙ ap as_piece is)

reads_word : (place : Place) (cs : List ℕ) (r : Outcome (Token × List ℕ)) → next_is begins_word cs ≡ true → word_at cs ≡ r → Reads place cs (as_piece r)
reads_word place [] r begun is = absurd (false≢true begun)
reads_word place (c ∷ cs) r begun is =
    reads_token place c cs r (not_blank begins_word c refl refl refl refl refl begun) (begins_comment-not place c cs (not_code begins_word 45 c refl begun) (not_code begins_word 47 c refl begun)) (token_at-word place c cs begun ∙ is)

reads_number : (place : Place) (cs : List ℕ) (r : Outcome (Token × List ℕ)) → next_is is_ascii_digit cs ≡ true → number_at cs ≡ r → Reads place cs (as_piece r)
reads_number place [] r begun is = absurd (false≢true begun)
reads_number place (c ∷ cs) r begun is =
    reads_token place c cs r (not_blank is_ascii_digit c refl refl refl refl refl begun) (begins_comment-not place c cs (not_code is_ascii_digit 45 c refl begun) (not_code is_ascii_digit 47 c refl begun)) (token_at-number place c cs begun ∙ is)

reads_code : (place : Place) (k : ℕ) (cs : List ℕ) (r : Outcome (Token × List ℕ)) → is_blank k ≡ false → (k == 45) ≡ false → (k == 47) ≡ false → token_at place (k ∷ cs) ≡ r → Reads place (k ∷ cs) (as_piece r)
reads_code place k cs r no_blank no_line no_block is = reads_token place k cs r no_blank (begins_comment-not place k cs no_line no_block) is

reads_sign : (place : Place) (c : ℕ) (cs : List ℕ) (r : Outcome (Token × List ℕ)) → is_other c ≡ true → (is_start place && c == 92) ≡ false → begins_comment place (c ∷ cs) ≡ false → sign_at (c ∷ cs) ≡ r → Reads place (c ∷ cs) (as_piece r)
reads_sign place c cs r other start no_comment is = reads_token place c cs r (other_no_blank c other) no_comment (token_at-sign place c cs other start ∙ is)

reads_front : (place : Place) (cs : List ℕ) (r : Outcome (Token × List ℕ)) → Front cs → begins_comment place cs ≡ false → sign_at cs ≡ r → Reads place cs (as_piece r)
reads_front place cs r front no_comment is =
    subst (λ (xs : List ℕ). Reads place xs (as_piece r)) (sym front.are)
    (reads_sign place front.c front.more r front.other (not_start place front.c front.differs) (subst (λ (xs : List ℕ). begins_comment place xs ≡ false) front.are no_comment) (subst (λ (xs : List ℕ). sign_at xs ≡ r) front.are is))

pub reads_of_token : (place : Place) (cs : List ℕ) (found : Token) (rest : List ℕ) → IsToken place cs found rest → Reads place cs (Ok (Some found, rest))
reads_of_token place _ _ _ (IsToken.backslash cs letters rest start run) =
    subst (λ (p : Place). Reads p (92 ∷ cs) (Ok (Some (token.Backslash (encode_utf8_all letters)), rest))) (sym start) (reads_code Start 92 cs _ refl refl refl (token_at-backslash cs ∙ backslash_at-complete run))
reads_of_token place _ _ _ (IsToken.word cs word rest begun run short) = reads_word place cs _ begun (word_at-complete run short)
reads_of_token place _ _ _ (IsToken.quoted cs name rest is some short) = reads_code place 34 cs _ refl refl refl (token_at-quoted place cs ∙ quoted_at-complete is some short)
reads_of_token place _ _ _ (IsToken.text cs content rest is) = reads_code place 39 cs _ refl refl refl (token_at-text place cs ∙ text_at-complete is)
reads_of_token place _ _ _ (IsToken.number cs digits rest begun run no_letter) = reads_number place cs _ begun (number_at-complete run no_letter)
reads_of_token place _ _ _ (IsToken.param cs digits rest begun run) = reads_code place 36 cs _ refl refl refl (token_at-param place cs ∙ param_at-complete begun run)
reads_of_token place _ _ _ (IsToken.sign cs sign rest no_comment has longest) = reads_front place cs _ (sign_front has) no_comment (sign_at-complete has longest)

start_of : (place : Place) (c : ℕ) → (place ≡ Start → c ≢ 92) → (is_start place && c == 92) ≡ false
start_of Start c differs = ne_eqb c 92 (differs refl)
start_of Later c differs = refl
start_of BackslashLine c differs = refl

-- a `-` or a `/` is a sign
no_sign_no : (k c : ℕ) (sign : Sign) (cs : List ℕ) → IsSign sign (k ∷ []) → ((sign : Sign) (rest : List ℕ) → ¬ HasSign (c ∷ cs) sign rest) → (c == k) ≡ false
no_sign_no k c sign cs is none = ne_eqb c k (λ e. none sign cs (record { text = c ∷ []; parts = refl; written = subst (λ (x : ℕ). IsSign sign (x ∷ [])) (sym e) is }))

pub reads_of_refusal : (place : Place) (cs : List ℕ) (e : SqlError) → IsRefused place cs e → Reads place cs (Err e)
reads_of_refusal place _ _ (IsRefused.comment cs has none) = reads_gap place 47 (42 ∷ cs) (Err syntax_error) (after_gap-unended place cs has none)
reads_of_refusal place _ _ (IsRefused.quoted cs none) = reads_code place 34 cs _ refl refl refl (token_at-quoted place cs ∙ quoted_at-unended cs none)
reads_of_refusal place _ _ (IsRefused.text cs none) = reads_code place 39 cs _ refl refl refl (token_at-text place cs ∙ text_at-unended cs none)
reads_of_refusal place _ _ (IsRefused.empty cs rest is) = reads_code place 34 cs _ refl refl refl (token_at-quoted place cs ∙ quoted_at-empty is)
reads_of_refusal place _ _ (IsRefused.long_quoted cs name rest is long) = reads_code place 34 cs _ refl refl refl (token_at-quoted place cs ∙ quoted_at-long is long)
reads_of_refusal place _ _ (IsRefused.long_word cs word rest begun run long) = reads_word place cs _ begun (word_at-long run long)
reads_of_refusal place _ _ (IsRefused.number cs digits rest begun run letter) = reads_number place cs _ begun (number_at-letter run letter)
reads_of_refusal place _ _ (IsRefused.param cs none) = reads_code place 36 cs _ refl refl refl (token_at-param place cs ∙ param_at-none cs none)
reads_of_refusal place _ _ (IsRefused.other c cs other differs none) =
    reads_sign place c cs _ other (start_of place c differs) (begins_comment-not place c cs (no_sign_no 45 c Minus cs refl none) (no_sign_no 47 c Slash cs refl none)) (sign_at-none c cs none)

pub reads_of_gap : (place : Place) (cs rest : List ℕ) → IsGap place cs rest → Reads place cs (Ok (None, rest))
reads_of_gap place _ _ (IsGap.blank c rest blank) = reads_gap place c rest _ (after_gap-blank place c rest blank)
reads_of_gap place _ _ (IsGap.line cs line rest has run) = reads_gap place 45 (45 ∷ cs) _ (after_gap-complete place (45 ∷ 45 ∷ cs) rest (IsGap.line cs line rest has run))
reads_of_gap place _ _ (IsGap.block cs rest has is) = reads_gap place 47 (42 ∷ cs) _ (after_gap-complete place (47 ∷ 42 ∷ cs) rest (IsGap.block cs rest has is))
