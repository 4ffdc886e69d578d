use Rattle.std.proofs.Common.{◌≡◌, ℕ, zero, suc, ◌+◌, ◌-◌, ◌≤◌, ◌==◌, ◌&&◌, ◌||◌, cond, Bool, true, false, List, [], ◌∷◌, length, map, encode_utf8_all, Option, Some, None, option_to_list, Ok, Err, refl, sym, ap, ◌∙◌, length-drop, arith}
use Rattle.std.specs.Char.{is_ascii_digit, to_ascii_lowercase}
use Rattle.std.specs.List.{prefix_len}
use Rattle.sql_tokens.specs.declared.lexer.Place.{Place}
use Rattle.sql_tokens.specs.declared.lexer.characters.Class.{Class}
use Rattle.sql_tokens.specs.declared.lexer.characters.Class.TheVariants.{Digit, Letter, InWord, InLine}
use Rattle.sql_tokens.specs.declared.token.Sign.{Sign}
use Rattle.sql_tokens.specs.declared.token.Token.{Token}
use Rattle.sql_tokens.specs.Tokens.{Outcome, ◌>>=◌, is_blank, begins_word, is_in, run_of, after_run, after_block, after_ended, has_comments, after_comment, after_gap, identifier_of, word_at, text_before, content_at, quoted_of, quoted_at, text_at, begins_letter, number_at, param_at, backslash_at, long_sign, short_sign, sign_or, sign_at, is_start, token_at, piece_of, piece_at, behind_piece, tokens_before, tokens_from, all_tokens, piece_then}
use Rattle.sql_tokens.proofs.TokensLemmas.{tokens_first}

-- ---- what is read leaves at most so many characters

abbrev pub Within : {A : Type 0} → ℕ → Outcome (A × List ℕ) → Type 0
Within n (Ok read) = length read.1 ≤ n
Within n (Err e) = Unit {0}

abbrev WithinIf : ℕ → Option (List ℕ) → Type 0
WithinIf n None = Unit {0}
WithinIf n (Some rest) = length rest ≤ n

abbrev WithinGap : ℕ → Outcome (Option (List ℕ)) → Type 0
WithinGap n (Ok gap) = WithinIf n gap
WithinGap n (Err e) = Unit {0}

Within-cond : {A : Type 0} (n : ℕ) (b : Bool) (r s : Outcome (A × List ℕ)) → (b ≡ true → Within n r) → Within n s → Within n (cond b r s)
Within-cond n true r s at_true at_false = at_true refl
Within-cond n false r s at_true at_false = at_false

WithinIf-cond : (n : ℕ) (b : Bool) (r s : Option (List ℕ)) → WithinIf n r → WithinIf n s → WithinIf n (cond b r s)
WithinIf-cond n true r s at_true at_false = at_true
WithinIf-cond n false r s at_true at_false = at_false

WithinGap-cond : (n : ℕ) (b : Bool) (r s : Outcome (Option (List ℕ))) → WithinGap n r → WithinGap n s → WithinGap n (cond b r s)
WithinGap-cond n true r s at_true at_false = at_true
WithinGap-cond n false r s at_true at_false = at_false

WithinIf-more : (m n : ℕ) (r : Option (List ℕ)) → m ≤ n → WithinIf m r → WithinIf n r
WithinIf-more m n None le h = tt
WithinIf-more m n (Some rest) le h = omega arith

-- what is done with a part that was read before
Within-then : {A B : Type 0} (n : ℕ) (r : Outcome (A × List ℕ)) (f : A × List ℕ → Outcome (B × List ℕ)) → Within n r → ((read : A × List ℕ) → length read.1 ≤ n → Within n (f read)) → Within n (r >>= f)
Within-then n (Ok read) f h each = each read h
Within-then n (Err e) f h each = tt

Within-after : {A B : Type 0} (n : ℕ) (r : Outcome A) (f : A → Outcome (B × List ℕ)) → ((a : A) → Within n (f a)) → Within n (r >>= f)
Within-after n (Ok a) f each = each a
Within-after n (Err e) f each = tt

Within-text_before : (m n : ℕ) (r : Outcome (List ℕ × List ℕ)) (text : List ℕ) → m ≤ n → Within m r → Within n (r >>= text_before text)
Within-text_before m n (Ok content) text le h = omega arith
Within-text_before m n (Err e) text le h = tt

length-after_run : (class : Class) (cs : List ℕ) → length (after_run class cs) ≤ length cs
length-after_run class cs = omega (arith, length-drop (prefix_len (is_in class) cs) cs)

length-after_run_of : (class : Class) (c : ℕ) (cs : List ℕ) → is_in class c ≡ true → length (after_run class (c ∷ cs)) ≤ length cs
length-after_run_of class c cs h =
    let one : prefix_len (is_in class) (c ∷ cs) ≡ 1 + prefix_len (is_in class) cs = ap (λ (b : Bool). cond b (1 + prefix_len (is_in class) cs) 0) h in
    rw one (omega (arith, length-drop (1 + prefix_len (is_in class) cs) (c ∷ cs)))

after_block-within : (nested : ℕ) (cs : List ℕ) → WithinIf (length cs) (after_block nested cs)
unfolding after_block
after_block-within nested [] = tt
after_block-within nested (c ∷ []) = tt
after_block-within nested (c ∷ d ∷ cs) =
    WithinIf-cond _ (c == 42 && d == 47) _ _
    (WithinIf-cond _ (nested == 0) _ _ (omega arith) (WithinIf-more (length cs) _ _ (omega arith) (after_block-within (nested - 1) cs)))
    (WithinIf-cond _ (c == 47 && d == 42) _ _
    (WithinIf-more (length cs) _ _ (omega arith) (after_block-within (nested + 1) cs))
    (WithinIf-more (length (d ∷ cs)) _ _ (omega arith) (after_block-within nested (d ∷ cs))))

after_ended-within : (n : ℕ) (r : Option (List ℕ)) → WithinIf n r → WithinGap n (after_ended r)
after_ended-within n None h = tt
after_ended-within n (Some rest) h = h

after_comment-within : (c : ℕ) (cs : List ℕ) → WithinGap (length cs) (after_comment (c ∷ cs))
unfolding after_comment
after_comment-within c [] = tt
after_comment-within c (d ∷ cs) =
    WithinGap-cond _ (c == 45 && d == 45) _ _ (omega (arith, length-after_run InLine cs))
    (WithinGap-cond _ (c == 47 && d == 42) _ _ (after_ended-within _ _ (WithinIf-more (length cs) _ _ (omega arith) (after_block-within 0 cs))) tt)

after_gap-within : (place : Place) (c : ℕ) (cs : List ℕ) → WithinGap (length cs) (after_gap place (c ∷ cs))
unfolding after_gap
after_gap-within place c cs =
    WithinGap-cond _ (is_blank c) _ _ (omega arith) (WithinGap-cond _ (has_comments place) _ _ (after_comment-within c cs) tt)

content_at-within : (quote : ℕ) (cs : List ℕ) → Within (length cs) (content_at quote cs)
unfolding content_at
content_at-within quote [] = tt
content_at-within quote (c ∷ []) = Within-cond _ (c == quote) _ _ (λ _. omega arith) tt
content_at-within quote (c ∷ d ∷ cs) =
    Within-cond _ (c == quote) _ _
    (λ _. Within-cond _ (d == quote) _ _ (λ _. Within-text_before (length cs) _ _ _ (omega arith) (content_at-within quote cs)) (omega arith))
    (Within-text_before (length (d ∷ cs)) _ _ _ (omega arith) (content_at-within quote (d ∷ cs)))

word_at-within : (c : ℕ) (cs : List ℕ) → is_in InWord c ≡ true → Within (length cs) (word_at (c ∷ cs))
unfolding word_at
word_at-within c cs h = Within-after _ (identifier_of (encode_utf8_all (map to_ascii_lowercase (run_of InWord (c ∷ cs))))) _ (λ name. length-after_run_of InWord c cs h)

number_at-within : (c : ℕ) (cs : List ℕ) → is_in Digit c ≡ true → Within (length cs) (number_at (c ∷ cs))
unfolding number_at
number_at-within c cs h = Within-cond _ (begins_letter (after_run Digit (c ∷ cs))) _ _ (λ _. tt) (length-after_run_of Digit c cs h)

quoted_at-within : (cs : List ℕ) → Within (length cs) (quoted_at cs)
unfolding quoted_at
quoted_at-within cs = Within-then _ (content_at 34 cs) _ (content_at-within 34 cs) (λ content le. Within-after _ (quoted_of content.0) _ (λ name. le))

text_at-within : (cs : List ℕ) → Within (length cs) (text_at cs)
unfolding text_at
text_at-within cs = Within-then _ (content_at 39 cs) _ (content_at-within 39 cs) (λ content le. le)

param_at-within : (cs : List ℕ) → Within (length cs) (param_at cs)
unfolding param_at
param_at-within cs = Within-cond _ (length (run_of Digit cs) == 0) _ _ (λ _. tt) (length-after_run Digit cs)

backslash_at-within : (cs : List ℕ) → Within (length cs) (backslash_at cs)
unfolding backslash_at
backslash_at-within cs = length-after_run Letter cs

sign_or-within : (n : ℕ) (sign : Option Sign) (rest : List ℕ) (other : Outcome (Token × List ℕ)) → length rest ≤ n → Within n other → Within n (sign_or sign rest other)
sign_or-within n (Some sign) rest other le h = le
sign_or-within n None rest other le h = h

sign_at-within : (c : ℕ) (cs : List ℕ) → Within (length cs) (sign_at (c ∷ cs))
unfolding sign_at
sign_at-within c [] = sign_or-within _ (short_sign c) [] _ (omega arith) tt
sign_at-within c (d ∷ cs) = sign_or-within _ (long_sign c d) cs _ (omega arith) (sign_or-within _ (short_sign c) (d ∷ cs) _ (omega arith) tt)

or_left : (a b : Bool) → a ≡ true → (a || b) ≡ true
or_left true b h = refl
or_left false b h = cc

token_at-within : (place : Place) (c : ℕ) (cs : List ℕ) → Within (length cs) (token_at place (c ∷ cs))
unfolding token_at
token_at-within place c cs =
    Within-cond _ (is_start place && c == 92) _ _ (λ _. backslash_at-within cs)
    (Within-cond _ (c == 39) _ _ (λ _. text_at-within cs)
    (Within-cond _ (c == 34) _ _ (λ _. quoted_at-within cs)
    (Within-cond _ (c == 36) _ _ (λ _. param_at-within cs)
    (Within-cond _ (begins_word c) _ _ (λ h. word_at-within c cs (or_left (begins_word c || is_ascii_digit c) (c == 36) (or_left (begins_word c) (is_ascii_digit c) h)))
    (Within-cond _ (is_ascii_digit c) _ _ (λ h. number_at-within c cs h) (sign_at-within c cs))))))

piece_of-within : (n : ℕ) (gap : Option (List ℕ)) (found : Outcome (Token × List ℕ)) → WithinIf n gap → Within n found → Within n (piece_of gap found)
piece_of-within n (Some rest) found le h = le
piece_of-within n None (Ok found) le h = h
piece_of-within n None (Err e) le h = tt

piece_by_gap : (n : ℕ) (gap : Outcome (Option (List ℕ))) (found : Outcome (Token × List ℕ)) → WithinGap n gap → Within n found → Within n (gap >>= (λ g. piece_of g found))
piece_by_gap n (Ok gap) found le h = piece_of-within n gap found le h
piece_by_gap n (Err e) found le h = tt

-- a piece has a character at least
pub piece_at-within : (place : Place) (c : ℕ) (cs : List ℕ) → Within (length cs) (piece_at place (c ∷ cs))
unfolding piece_at
piece_at-within place c cs = piece_by_gap _ (after_gap place (c ∷ cs)) (token_at place (c ∷ cs)) (after_gap-within place c cs) (token_at-within place c cs)

-- ---- more turns than characters find nothing more

then_same : (k n m : ℕ) (place : Place) (r : Outcome (Option Token × List ℕ)) → Within k r → ((next : Place) (cs : List ℕ) → length cs ≤ k → tokens_from n next cs ≡ tokens_from m next cs) → r >>= piece_then (tokens_from n) place ≡ r >>= piece_then (tokens_from m) place
then_same k n m place (Ok piece) h same = ap (λ (r : Outcome (List Token)). r >>= tokens_before (option_to_list piece.0)) (same (behind_piece place piece.0) piece.1 h)
then_same k n m place (Err e) h same = refl

pub tokens_from-nil : (n : ℕ) (place : Place) → tokens_from n place [] ≡ Ok []
unfolding tokens_from
tokens_from-nil zero place = refl
tokens_from-nil (suc n) place = refl

tokens_enough : (n m : ℕ) (place : Place) (cs : List ℕ) → length cs ≤ n → length cs ≤ m → tokens_from n place cs ≡ tokens_from m place cs
tokens_enough n m place [] le le2 = tokens_from-nil n place ∙ sym (tokens_from-nil m place)
tokens_enough zero m place (c ∷ cs) le le2 = absurd (omega arith)
tokens_enough (suc n) zero place (c ∷ cs) le le2 = absurd (omega arith)
tokens_enough (suc n) (suc m) place (c ∷ cs) le le2 =
    tokens_first (suc n) n place (c ∷ cs) refl (omega arith)
    ∙ then_same (length cs) n m place (piece_at place (c ∷ cs)) (piece_at-within place c cs) (λ next rest le3. tokens_enough n m next rest (omega arith) (omega arith))
    ∙ sym (tokens_first (suc m) m place (c ∷ cs) refl (omega arith))

then_all : (k : ℕ) (place : Place) (r : Outcome (Option Token × List ℕ)) → Within k r → r >>= piece_then (tokens_from k) place ≡ r >>= piece_then all_tokens place
then_all k place (Ok piece) h = ap (λ (r : Outcome (List Token)). r >>= tokens_before (option_to_list piece.0)) (tokens_enough k (length piece.1) (behind_piece place piece.0) piece.1 h (omega arith))
then_all k place (Err e) h = refl

pub all_tokens-cons : (place : Place) (c : ℕ) (cs : List ℕ) → all_tokens place (c ∷ cs) ≡ piece_at place (c ∷ cs) >>= piece_then all_tokens place
all_tokens-cons place c cs =
    tokens_first (length (c ∷ cs)) (length cs) place (c ∷ cs) (omega arith) (omega arith)
    ∙ then_all (length cs) place (piece_at place (c ∷ cs)) (piece_at-within place c cs)

pub all_tokens-nil : (place : Place) → all_tokens place [] ≡ Ok []
all_tokens-nil place = tokens_from-nil 0 place
