use Rattle.std.proofs.Common.{◌≡◌, ℕ, suc, ◌+◌, ◌-◌, ◌<◌, ◌≤◌, ◌==◌, ◌&&◌, cond, Bool, true, false, List, [], ◌∷◌, ◌++◌, length, get_or, take, drop, take_all, encode_utf8, append_assoc, Option, Some, None, option_to_list, Ok, Err, refl, sym, ap, ap₂, ◌∙◌, subst, arith}
use Rattle.q_base.specs.declared.errors.SqlError.{SqlError}
use Rattle.q_base.specs.declared.errors.Stop.{Stop}
use Rattle.q_base.specs.declared.errors.Stop.TheVariants.{Sql, NoMemory}
use Rattle.q_base.specs.Stops.{StopsBy}
use Rattle.sql_tokens.specs.declared.lexer.Place.{Place}
use Rattle.sql_tokens.specs.declared.token.Token.{Token}
use Rattle.sql_tokens.specs.Tokens.{Outcome, ◌>>=◌, syntax_error, after_block, block_turn, after_character, content_at, text_before, piece_at, piece_then, tokens_from, tokens_before, behind_piece}

-- ---- block comments

-- what one turn leaves, as the end of the comment
abbrev after_turn : (ℕ → List ℕ → Option (List ℕ)) → Option ℕ → List ℕ → Option (List ℕ)
after_turn f None rest = Some rest
after_turn f (Some nested) rest = f nested rest

-- the same at each answer of the tests: a `*/`, at no other open comment, and a `/*`
turn_by_tests : (close last begin : Bool) (f : ℕ → List ℕ → Option (List ℕ)) (nested : ℕ) (cs other : List ℕ)
    → cond close (cond last (Some cs) (f (nested - 1) cs)) (cond begin (f (nested + 1) cs) (f nested other))
    ≡ (let turn : Option ℕ × List ℕ = cond close (cond last None (Some (nested - 1)), cs) (cond begin (Some (nested + 1), cs) (Some nested, other)) in after_turn f turn.0 turn.1)
turn_by_tests true true begin f nested cs other = refl
turn_by_tests true false begin f nested cs other = refl
turn_by_tests false last true f nested cs other = refl
turn_by_tests false last false f nested cs other = refl

after_block_turn : (nested : ℕ) (cs : List ℕ) → 0 < length cs → after_block nested cs ≡ after_turn after_block (block_turn nested cs).0 (block_turn nested cs).1
unfolding after_block block_turn
after_block_turn nested [] some = absurd (omega arith)
after_block_turn nested (c ∷ []) some = refl
after_block_turn nested (c ∷ d ∷ cs) some = turn_by_tests (c == 42 && d == 47) (nested == 0) (c == 47 && d == 42) after_block nested cs (d ∷ cs)

pub after_block_open : (nested n : ℕ) (cs : List ℕ) → 0 < length cs → (block_turn nested cs).0 ≡ Some n → after_block nested cs ≡ after_block n (block_turn nested cs).1
after_block_open nested n cs some h = after_block_turn nested cs some ∙ ap (λ (o : Option ℕ). after_turn after_block o (block_turn nested cs).1) h

pub after_block_ended : (nested : ℕ) (cs : List ℕ) → 0 < length cs → (block_turn nested cs).0 ≡ None → after_block nested cs ≡ Some (block_turn nested cs).1
after_block_ended nested cs some h = after_block_turn nested cs some ∙ ap (λ (o : Option ℕ). after_turn after_block o (block_turn nested cs).1) h

-- ---- quoted contents

-- a text before a text before a content
text_before-text_before : (r : Outcome (List ℕ × List ℕ)) (first second : List ℕ) → (r >>= text_before second) >>= text_before first ≡ r >>= text_before (first ++ second)
text_before-text_before (Ok content) first second = ap (λ (xs : List ℕ). Ok (xs, content.1)) (sym (append_assoc first second content.0))
text_before-text_before (Err e) first second = refl

-- the content by what follows its first character
abbrev pub content_then : ℕ → ℕ → List ℕ → Option (List ℕ) → Outcome (List ℕ × List ℕ)
content_then quote c cs None = Ok ([], cs)
content_then quote c cs (Some after) = content_at quote after >>= text_before (encode_utf8 c)

-- the same at each answer of the tests: a quote, and a second one
content_by_tests : (same second : Bool) (quote c d : ℕ) (cs : List ℕ)
    → cond same (cond second (content_at quote cs >>= text_before (encode_utf8 c)) (Ok ([], d ∷ cs))) (content_at quote (d ∷ cs) >>= text_before (encode_utf8 c))
    ≡ content_then quote c (d ∷ cs) (cond same (cond second (Some cs) None) (Some (d ∷ cs)))
content_by_tests true true quote c d cs = refl
content_by_tests true false quote c d cs = refl
content_by_tests false second quote c d cs = refl

last_by_test : (same : Bool) (quote c : ℕ) → cond same (Ok ([], [])) (Err syntax_error) ≡ content_then quote c [] (cond same None (Some []))
unfolding content_at
last_by_test true quote c = refl
last_by_test false quote c = refl

pub content_first : (quote c : ℕ) (cs : List ℕ) → content_at quote (c ∷ cs) ≡ content_then quote c cs (after_character quote c cs)
unfolding content_at
content_first quote c [] = last_by_test (c == quote) quote c
content_first quote c (d ∷ cs) = content_by_tests (c == quote) (d == quote) quote c d cs

-- one turn over a content: its first character, and what follows that
pub content_turn : (quote c : ℕ) (cs after text longer : List ℕ) → 1 ≤ length cs → c ≡ get_or cs 0 c → Some after ≡ after_character quote c (take (length cs - 1) (drop 1 cs)) → longer ≡ text ++ encode_utf8 c → content_at quote cs >>= text_before text ≡ content_at quote after >>= text_before longer
content_turn quote c [] after text longer some first h longer_is = absurd (omega arith)
content_turn quote c (d ∷ cs) after text longer some first h longer_is =
    let rest : take (length (d ∷ cs) - 1) (drop 1 (d ∷ cs)) ≡ cs = take_all _ cs (omega arith) in
    ap (λ (x : ℕ). content_at quote (x ∷ cs) >>= text_before text) (sym first)
    ∙ ap (λ (r : Outcome (List ℕ × List ℕ)). r >>= text_before text) (content_first quote c cs ∙ ap (content_then quote c cs) (ap (after_character quote c) (sym rest) ∙ sym h))
    ∙ text_before-text_before (content_at quote after) text (encode_utf8 c)
    ∙ ap (λ (t : List ℕ). content_at quote after >>= text_before t) (sym longer_is)

-- ---- pieces

-- tokens before tokens before others
tokens_before-tokens_before : (r : Outcome (List Token)) (first second : List Token) → (r >>= tokens_before second) >>= tokens_before first ≡ r >>= tokens_before (first ++ second)
tokens_before-tokens_before (Ok more) first second = ap (λ (ts : List Token). Ok ts) (sym (append_assoc first second more))
tokens_before-tokens_before (Err e) first second = refl

-- the first piece and the others
pub tokens_first : (n m : ℕ) (place : Place) (cs : List ℕ) → suc m ≡ n → 0 < length cs → tokens_from n place cs ≡ piece_at place cs >>= piece_then (tokens_from m) place
unfolding tokens_from
tokens_first n m place [] turns some = absurd (omega arith)
tokens_first n m place (c ∷ cs) turns some = subst (λ (k : ℕ). tokens_from k place (c ∷ cs) ≡ piece_at place (c ∷ cs) >>= piece_then (tokens_from m) place) turns refl

-- one turn over a text: its first piece, and what follows that
pub tokens_turn : (n m : ℕ) (place next : Place) (cs rest : List ℕ) (found more : List Token) (piece : Option Token) → suc m ≡ n → 0 < length cs → piece_at place cs ≡ Ok (piece, rest) → next ≡ behind_piece place piece → more ≡ found ++ option_to_list piece → tokens_from n place cs >>= tokens_before found ≡ tokens_from m next rest >>= tokens_before more
tokens_turn n m place next cs rest found more piece turns some h next_is more_is =
    ap (λ (r : Outcome (List Token)). r >>= tokens_before found) (tokens_first n m place cs turns some ∙ ap (λ (r : Outcome (Option Token × List ℕ)). r >>= piece_then (tokens_from m) place) h)
    ∙ tokens_before-tokens_before (tokens_from m (behind_piece place piece) rest) found (option_to_list piece)
    ∙ ap₂ (λ (p : Place) (ts : List Token). tokens_from m p rest >>= tokens_before ts) (sym next_is) (sym more_is)

-- a piece that is refused
tokens_refused : (n m : ℕ) (place : Place) (cs : List ℕ) (found : List Token) (e : SqlError) → suc m ≡ n → 0 < length cs → piece_at place cs ≡ Err e → tokens_from n place cs >>= tokens_before found ≡ Err e
tokens_refused n m place cs found e turns some h =
    ap (λ (r : Outcome (List Token)). r >>= tokens_before found) (tokens_first n m place cs turns some ∙ ap (λ (r : Outcome (Option Token × List ℕ)). r >>= piece_then (tokens_from m) place) h)

-- so is the text
pub tokens_stopped : (n m : ℕ) (place : Place) (cs : List ℕ) (found : List Token) (whole : Outcome (List Token)) (stop : Stop) → suc m ≡ n → 0 < length cs → tokens_from n place cs >>= tokens_before found ≡ whole → StopsBy (λ e. piece_at place cs ≡ Err e) stop → StopsBy (λ e. whole ≡ Err e) stop
tokens_stopped n m place cs found whole (Sql e) turns some same h = sym same ∙ tokens_refused n m place cs found e turns some h
tokens_stopped n m place cs found whole NoMemory turns some same h = tt
