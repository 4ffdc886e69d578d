use Rattle.std.proofs.Common.{◌≡◌, ◌≢◌, ℕ, ◌==◌, ◌<◌, ◌≤◌, cond, Bool, true, false, ltb, List, [], ◌∷◌, ◌++◌, length, encode_utf8, encode_utf8_all, Some, None, Ok, Err, refl, sym, ap, ap₂, ◌∙◌, subst, ltb-true, ltb-false, lt-ltb, le-ltb, eq-eqb, eqb-true, ne_eqb, length-append, append_assoc, arith}
use Rattle.std.proofs.lemmas.Bool.{cond_both}
use Rattle.std.proofs.lemmas.Str.{length-encode, len_utf8_bounds}
use Rattle.q_base.specs.declared.errors.SqlError.{SqlError}
use Rattle.sql_tokens.specs.declared.lexer.Place.{Place}
use Rattle.sql_tokens.specs.declared.lexer.characters.Class.TheVariants.{InWord}
use Rattle.sql_tokens.specs.declared.token.Token.{Token}
use Rattle.sql_tokens.specs.declared.token.Token.TheVariants as token
use Rattle.sql_tokens.specs.Tokens.{Outcome, ◌>>=◌, syntax_error, begins_word, is_in_word, run_of, after_run, identifier_of, word_at, text_before, after_character, content_at, quoted_of, quoted_at, text_at}
use Rattle.sql_tokens.specs.Spelling.{next_is, IsRun, doubled, IsQuoted, IsUnended, folded, IsToken, too_long, IsRefused}
use Rattle.sql_tokens.proofs.SpellingRuns.{run_of-sound, run_of-complete, after_run-complete}
use Rattle.sql_tokens.proofs.TokensLemmas.{content_then, content_first}

-- what a token means
abbrev pub TokenMeans : Place → List ℕ → Outcome (Token × List ℕ) → Type 0
TokenMeans place cs (Ok found) = IsToken place cs found.0 found.1
TokenMeans place cs (Err e) = IsRefused place cs e

-- ---- words

short_name : (name : List ℕ) → length name ≤ 63 → identifier_of name ≡ Ok name
unfolding identifier_of
short_name name short = ap (λ (b : Bool). cond b (Err (too_long name)) (Ok name)) (le-ltb 63 (length name) short)

long_name : (name : List ℕ) → 63 < length name → identifier_of name ≡ Err (too_long name)
unfolding identifier_of
long_name name long = ap (λ (b : Bool). cond b (Err (too_long name)) (Ok name)) (lt-ltb 63 (length name) long)

-- an identifier that something is made of: by its length
name_both : {A : Type 0} (P : Outcome A → Type 0) (name : List ℕ) (f : List ℕ → Outcome A) → (63 < length name → P (Err (too_long name))) → (length name ≤ 63 → P (f name)) → P (identifier_of name >>= f)
unfolding identifier_of
name_both {A} P name f long short = cond_both (ltb 63 (length name)) (Err (too_long name)) (Ok name) (λ (r : Outcome (List ℕ)). P (r >>= f)) (λ e. long (ltb-true 63 (length name) e)) (λ e. short (ltb-false 63 (length name) e))

pub word_at-sound : (place : Place) (cs : List ℕ) → next_is begins_word cs ≡ true → TokenMeans place cs (word_at cs)
unfolding word_at
word_at-sound place cs begun =
    let run : IsRun is_in_word cs (run_of InWord cs) (after_run InWord cs) = run_of-sound InWord cs in
    name_both (TokenMeans place cs) (folded (run_of InWord cs)) (λ (name : List ℕ). Ok (token.Word name, after_run InWord cs)) (λ long. IsRefused.long_word cs _ _ begun run long) (λ short. IsToken.word cs _ _ begun run short)

word_from : {cs word rest : List ℕ} → IsRun is_in_word cs word rest → word_at cs ≡ (identifier_of (folded word) >>= (λ name. Ok (token.Word name, rest)))
unfolding word_at
word_from {cs} {word} {rest} run = ap₂ (λ (xs ys : List ℕ). identifier_of (folded xs) >>= (λ name. Ok (token.Word name, ys))) (run_of-complete InWord run) (after_run-complete InWord run)

pub word_at-complete : {cs word rest : List ℕ} → IsRun is_in_word cs word rest → length (folded word) ≤ 63 → word_at cs ≡ Ok (token.Word (folded word), rest)
word_at-complete {cs} {word} {rest} run short = word_from run ∙ ap (λ (r : Outcome (List ℕ)). r >>= (λ name. Ok (token.Word name, rest))) (short_name (folded word) short)

pub word_at-long : {cs word rest : List ℕ} → IsRun is_in_word cs word rest → 63 < length (folded word) → word_at cs ≡ Err (too_long (folded word))
word_at-long {cs} {word} {rest} run long = word_from run ∙ ap (λ (r : Outcome (List ℕ)). r >>= (λ name. Ok (token.Word name, rest))) (long_name (folded word) long)

-- ---- contents

abbrev ContentMeans : ℕ → List ℕ → Outcome (List ℕ × List ℕ) → Type 0
ContentMeans quote cs (Ok found) = (content : List ℕ) × (found.0 ≡ encode_utf8_all content) × IsQuoted quote cs content found.1
ContentMeans quote cs (Err e) = e ≡ syntax_error

doubled_quote : (quote c : ℕ) (content : List ℕ) → (c == quote) ≡ true → doubled quote (c ∷ content) ≡ quote ∷ quote ∷ doubled quote content
doubled_quote quote c content same = ap (λ (b : Bool). cond b (quote ∷ quote ∷ doubled quote content) (c ∷ doubled quote content)) same

doubled_other : (quote c : ℕ) (content : List ℕ) → (c == quote) ≡ false → doubled quote (c ∷ content) ≡ c ∷ doubled quote content
doubled_other quote c content other = ap (λ (b : Bool). cond b (quote ∷ quote ∷ doubled quote content) (c ∷ doubled quote content)) other

-- a content with one more character before it, which `front` is written as
content_more : (quote c : ℕ) (cs longer front : List ℕ) (r : Outcome (List ℕ × List ℕ)) → ((content : List ℕ) → doubled quote (c ∷ content) ≡ front ++ doubled quote content) → longer ≡ front ++ cs → ContentMeans quote cs r → ContentMeans quote longer (r >>= text_before (encode_utf8 c))
content_more quote c cs longer front (Ok found) doubled_is longer_is h =
    (c ∷ h.0, ap (λ (xs : List ℕ). encode_utf8 c ++ xs) h.1, record { parts = longer_is ∙ ap (λ (xs : List ℕ). front ++ xs) h.2.parts ∙ sym (front_of h.0 (doubled_is h.0)); ends = h.2.ends })
  where
    front_of : (content : List ℕ) → doubled quote (c ∷ content) ≡ front ++ doubled quote content → doubled quote (c ∷ content) ++ quote ∷ found.1 ≡ front ++ (doubled quote content ++ quote ∷ found.1)
    front_of content e = ap (λ (xs : List ℕ). xs ++ quote ∷ found.1) e ∙ append_assoc front (doubled quote content) (quote ∷ found.1)
content_more quote c cs longer front (Err e) doubled_is longer_is h = h

content_ends : (quote c : ℕ) (cs : List ℕ) → (c == quote) ≡ true → next_is (λ x. x == quote) cs ≡ false → IsQuoted quote (c ∷ cs) [] cs
content_ends quote c cs same alone = record { parts = ap (λ (x : ℕ). x ∷ cs) (eqb-true c quote same); ends = alone }

pub content_at-sound : (quote : ℕ) (cs : List ℕ) → ContentMeans quote cs (content_at quote cs)
unfolding content_at
content_at-sound quote [] = refl
content_at-sound quote (c ∷ []) = cond_both (c == quote) _ _ (ContentMeans quote (c ∷ [])) (λ same. ([], refl, content_ends quote c [] same refl)) (λ other. refl)
content_at-sound quote (c ∷ d ∷ cs) =
    cond_both (c == quote) _ _ (ContentMeans quote (c ∷ d ∷ cs))
    (λ same. cond_both (d == quote) _ _ (ContentMeans quote (c ∷ d ∷ cs))
    (λ second. content_more quote c cs (c ∷ d ∷ cs) (quote ∷ quote ∷ []) (content_at quote cs) (λ content. doubled_quote quote c content same) (ap₂ (λ (x y : ℕ). x ∷ y ∷ cs) (eqb-true c quote same) (eqb-true d quote second)) (content_at-sound quote cs))
    (λ alone. ([], refl, content_ends quote c (d ∷ cs) same alone)))
    (λ other. content_more quote c (d ∷ cs) (c ∷ d ∷ cs) (c ∷ []) (content_at quote (d ∷ cs)) (λ content. doubled_other quote c content other) refl (content_at-sound quote (d ∷ cs)))

after_last : (quote : ℕ) (rest : List ℕ) → next_is (λ c. c == quote) rest ≡ false → after_character quote quote rest ≡ None
after_last quote [] alone = ap (λ (b : Bool). cond b None (Some [])) (eq-eqb quote quote refl)
after_last quote (d ∷ rest) alone = ap₂ (λ (a b : Bool). cond a (cond b (Some rest) None) (Some (d ∷ rest))) (eq-eqb quote quote refl) alone

after_doubled : (quote : ℕ) (cs : List ℕ) → after_character quote quote (quote ∷ cs) ≡ Some cs
after_doubled quote cs = ap (λ (b : Bool). cond b (cond b (Some cs) None) (Some (quote ∷ cs))) (eq-eqb quote quote refl)

after_other : (quote c : ℕ) (cs : List ℕ) → (c == quote) ≡ false → after_character quote c cs ≡ Some cs
after_other quote c [] other = ap (λ (b : Bool). cond b None (Some [])) other
after_other quote c (d ∷ cs) other = ap (λ (b : Bool). cond b (cond (d == quote) (Some cs) None) (Some (d ∷ cs))) other

content_of : (quote : ℕ) (content rest : List ℕ) → next_is (λ c. c == quote) rest ≡ false → content_at quote (doubled quote content ++ quote ∷ rest) ≡ Ok (encode_utf8_all content, rest)
content_of quote [] rest alone = content_first quote quote rest ∙ ap (content_then quote quote rest) (after_last quote rest alone)
content_of quote (c ∷ content) rest alone = by_test (c == quote) refl (content_of quote content rest alone)
  where
    by_test : (b : Bool) → (c == quote) ≡ b → content_at quote (doubled quote content ++ quote ∷ rest) ≡ Ok (encode_utf8_all content, rest) → content_at quote (cond b (quote ∷ quote ∷ doubled quote content) (c ∷ doubled quote content) ++ quote ∷ rest) ≡ Ok (encode_utf8 c ++ encode_utf8_all content, rest)
    by_test true same more =
        let is : c ≡ quote = eqb-true c quote same in
        content_first quote quote (quote ∷ (doubled quote content ++ quote ∷ rest))
        ∙ ap (content_then quote quote (quote ∷ (doubled quote content ++ quote ∷ rest))) (after_doubled quote (doubled quote content ++ quote ∷ rest))
        ∙ ap (λ (r : Outcome (List ℕ × List ℕ)). r >>= text_before (encode_utf8 quote)) more
        ∙ ap (λ (x : ℕ). Ok (encode_utf8 x ++ encode_utf8_all content, rest)) (sym is)
    by_test false other more =
        content_first quote c (doubled quote content ++ quote ∷ rest)
        ∙ ap (content_then quote c (doubled quote content ++ quote ∷ rest)) (after_other quote c (doubled quote content ++ quote ∷ rest) other)
        ∙ ap (λ (r : Outcome (List ℕ × List ℕ)). r >>= text_before (encode_utf8 c)) more

content_at-complete : {quote : ℕ} {cs content rest : List ℕ} → IsQuoted quote cs content rest → content_at quote cs ≡ Ok (encode_utf8_all content, rest)
content_at-complete {quote} {cs} {content} {rest} is = ap (content_at quote) is.parts ∙ content_of quote content rest is.ends

content_at-unended : (quote : ℕ) (cs : List ℕ) (e : SqlError) → content_at quote cs ≡ Err e → IsUnended quote cs
content_at-unended quote cs e refused content rest is = let found = content_at-complete is in cc

unended_by : (quote : ℕ) (cs : List ℕ) (r : Outcome (List ℕ × List ℕ)) → ContentMeans quote cs r → IsUnended quote cs → r ≡ Err syntax_error
unended_by quote cs (Ok found) h none = absurd (none h.0 found.1 h.2)
unended_by quote cs (Err e) h none = ap (λ (x : SqlError). Err x) h

content_unended : (quote : ℕ) (cs : List ℕ) → IsUnended quote cs → content_at quote cs ≡ Err syntax_error
content_unended quote cs none = unended_by quote cs (content_at quote cs) (content_at-sound quote cs) none

-- ---- strings

text_by : (place : Place) (cs : List ℕ) (r : Outcome (List ℕ × List ℕ)) → content_at 39 cs ≡ r → ContentMeans 39 cs r → TokenMeans place (39 ∷ cs) (r >>= (λ content. Ok (token.Text content.0, content.1)))
text_by place cs (Ok found) same h = subst (λ (bytes : List ℕ). IsToken place (39 ∷ cs) (token.Text bytes) found.1) (sym h.1) (IsToken.text cs h.0 found.1 h.2)
text_by place cs (Err e) same h = subst (λ (x : SqlError). IsRefused place (39 ∷ cs) x) (sym h) (IsRefused.text cs (content_at-unended 39 cs e same))

pub text_at-sound : (place : Place) (cs : List ℕ) → TokenMeans place (39 ∷ cs) (text_at cs)
unfolding text_at
text_at-sound place cs = text_by place cs (content_at 39 cs) refl (content_at-sound 39 cs)

pub text_at-complete : {cs content rest : List ℕ} → IsQuoted 39 cs content rest → text_at cs ≡ Ok (token.Text (encode_utf8_all content), rest)
unfolding text_at
text_at-complete is = ap (λ (r : Outcome (List ℕ × List ℕ)). r >>= (λ content. Ok (token.Text content.0, content.1))) (content_at-complete is)

pub text_at-unended : (cs : List ℕ) → IsUnended 39 cs → text_at cs ≡ Err syntax_error
unfolding text_at
text_at-unended cs none = ap (λ (r : Outcome (List ℕ × List ℕ)). r >>= (λ content. Ok (token.Text content.0, content.1))) (content_unended 39 cs none)

-- ---- quoted identifiers

some_bytes : (c : ℕ) (cs : List ℕ) → 0 < length (encode_utf8_all (c ∷ cs))
some_bytes c cs = omega (arith, length-append (encode_utf8 c) (encode_utf8_all cs), length-encode c, (len_utf8_bounds c).0)

abbrev quoted_then : List ℕ → List ℕ → Outcome (Token × List ℕ)
quoted_then name rest = identifier_of name >>= (λ name. Ok (token.Quoted name, rest))

some_name : (name rest : List ℕ) → name ≢ [] → (quoted_of (encode_utf8_all name) >>= (λ name. Ok (token.Quoted name, rest))) ≡ quoted_then (encode_utf8_all name) rest
some_name [] rest some = absurd (some refl)
some_name (c ∷ name) rest some =
    let bytes = some_bytes c name in
    let test : (length (encode_utf8_all (c ∷ name)) == 0) ≡ false = ne_eqb (length (encode_utf8_all (c ∷ name))) 0 (λ e. omega arith) in
    ap (λ (b : Bool). cond b (Err syntax_error) (identifier_of (encode_utf8_all (c ∷ name))) >>= (λ name. Ok (token.Quoted name, rest))) test

not_empty : (c : ℕ) (name : List ℕ) → (c ∷ name) ≢ []
not_empty c name e = cc

quoted_name : (place : Place) (cs name rest : List ℕ) → IsQuoted 34 cs name rest → TokenMeans place (34 ∷ cs) (quoted_of (encode_utf8_all name) >>= (λ name. Ok (token.Quoted name, rest)))
quoted_name place cs [] rest is = IsRefused.empty cs rest is
quoted_name place cs (c ∷ name) rest is =
    subst (TokenMeans place (34 ∷ cs)) (sym (some_name (c ∷ name) rest (not_empty c name)))
    (name_both (TokenMeans place (34 ∷ cs)) (encode_utf8_all (c ∷ name)) (λ (name : List ℕ). Ok (token.Quoted name, rest)) (λ long. IsRefused.long_quoted cs (c ∷ name) rest is long) (λ short. IsToken.quoted cs (c ∷ name) rest is (not_empty c name) short))

abbrev quoted_rest : List ℕ × List ℕ → Outcome (Token × List ℕ)
quoted_rest content = quoted_of content.0 >>= (λ name. Ok (token.Quoted name, content.1))

quoted_by : (place : Place) (cs : List ℕ) (r : Outcome (List ℕ × List ℕ)) → content_at 34 cs ≡ r → ContentMeans 34 cs r → TokenMeans place (34 ∷ cs) (r >>= quoted_rest)
quoted_by place cs (Ok found) same h = subst (λ (bytes : List ℕ). TokenMeans place (34 ∷ cs) (quoted_of bytes >>= (λ name. Ok (token.Quoted name, found.1)))) (sym h.1) (quoted_name place cs h.0 found.1 h.2)
quoted_by place cs (Err e) same h = subst (λ (x : SqlError). IsRefused place (34 ∷ cs) x) (sym h) (IsRefused.quoted cs (content_at-unended 34 cs e same))

pub quoted_at-sound : (place : Place) (cs : List ℕ) → TokenMeans place (34 ∷ cs) (quoted_at cs)
unfolding quoted_at
quoted_at-sound place cs = quoted_by place cs (content_at 34 cs) refl (content_at-sound 34 cs)

quoted_from : {cs name rest : List ℕ} → IsQuoted 34 cs name rest → quoted_at cs ≡ (quoted_of (encode_utf8_all name) >>= (λ name. Ok (token.Quoted name, rest)))
unfolding quoted_at
quoted_from is = ap (λ (r : Outcome (List ℕ × List ℕ)). r >>= quoted_rest) (content_at-complete is)

pub quoted_at-complete : {cs name rest : List ℕ} → IsQuoted 34 cs name rest → name ≢ [] → length (encode_utf8_all name) ≤ 63 → quoted_at cs ≡ Ok (token.Quoted (encode_utf8_all name), rest)
quoted_at-complete {cs} {name} {rest} is some short =
    quoted_from is ∙ some_name name rest some ∙ ap (λ (r : Outcome (List ℕ)). r >>= (λ name. Ok (token.Quoted name, rest))) (short_name (encode_utf8_all name) short)

some_if_long : (name : List ℕ) → 63 < length (encode_utf8_all name) → name ≢ []
some_if_long [] long e = omega arith
some_if_long (c ∷ name) long e = cc

pub quoted_at-long : {cs name rest : List ℕ} → IsQuoted 34 cs name rest → 63 < length (encode_utf8_all name) → quoted_at cs ≡ Err (too_long (encode_utf8_all name))
quoted_at-long {cs} {name} {rest} is long =
    quoted_from is ∙ some_name name rest (some_if_long name long) ∙ ap (λ (r : Outcome (List ℕ)). r >>= (λ name. Ok (token.Quoted name, rest))) (long_name (encode_utf8_all name) long)

pub quoted_at-empty : {cs rest : List ℕ} → IsQuoted 34 cs [] rest → quoted_at cs ≡ Err syntax_error
quoted_at-empty is = quoted_from is

pub quoted_at-unended : (cs : List ℕ) → IsUnended 34 cs → quoted_at cs ≡ Err syntax_error
unfolding quoted_at
quoted_at-unended cs none = ap (λ (r : Outcome (List ℕ × List ℕ)). r >>= quoted_rest) (content_unended 34 cs none)
