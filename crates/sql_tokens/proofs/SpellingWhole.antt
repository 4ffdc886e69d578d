use Rattle.std.proofs.Common.{◌≡◌, ℕ, zero, suc, ◌≤◌, List, [], ◌∷◌, length, chars, Option, Some, None, option_to_list, Result, Ok, Err, MatchResult, refl, sym, ap, ◌∙◌, subst, arith}
use Rattle.q_base.specs.declared.errors.Stop.{Stop}
use Rattle.q_base.specs.declared.errors.Stop.TheVariants.{Sql, NoMemory}
use Rattle.q_base.specs.Stops.{StopsBy}
use Rattle.sql_tokens.specs.declared.lexer.Place.{Place}
use Rattle.sql_tokens.specs.declared.lexer.Place.TheVariants.{Start}
use Rattle.sql_tokens.specs.declared.token.Token.{Token}
use Rattle.sql_tokens.specs.Tokens.{Outcome, ◌>>=◌, Gives, piece_at, behind_piece, tokens_before, piece_then, tokens_from, all_tokens, tokens_of}
use Rattle.sql_tokens.specs.Spelling.{with_token, Spells}
use Rattle.sql_tokens.proofs.TokensLemmas.{tokens_first}
use Rattle.sql_tokens.proofs.TokensWhole.{Within, piece_at-within, tokens_from-nil, all_tokens-nil, all_tokens-cons}
use Rattle.sql_tokens.proofs.SpellingTokens.{Stands, PieceMeans, piece_at-sound, Reads, reads_of_gap, reads_of_token, reads_of_refusal}

-- ---- what is found is spelt

nothing_before : (given : Outcome (List Token)) → given ≡ (given >>= tokens_before [])
nothing_before (Ok tokens) = refl
nothing_before (Err e) = refl

one_before : (found : Token) (given : Outcome (List Token)) → with_token found given ≡ (given >>= tokens_before (found ∷ []))
one_before found (Ok tokens) = refl
one_before found (Err e) = refl

spelt_behind : (place : Place) (cs : List ℕ) (found : Option Token) (rest : List ℕ) (given : Outcome (List Token)) → Stands place cs found rest → Spells (behind_piece place found) rest given → Spells place cs (given >>= tokens_before (option_to_list found))
spelt_behind place cs None rest given stands more = subst (Spells place cs) (nothing_before given) (Spells.behind_gap place cs rest given stands more)
spelt_behind place cs (Some found) rest given stands more = subst (Spells place cs) (one_before found given) (Spells.behind_token place cs found rest given stands more)

spelt_then : (n : ℕ) (place : Place) (cs : List ℕ) (r : Outcome (Option Token × List ℕ)) → PieceMeans place cs r → Within n r → ((next : Place) (rest : List ℕ) → length rest ≤ n → Spells next rest (tokens_from n next rest)) → Spells place cs (r >>= piece_then (tokens_from n) place)
spelt_then n place cs (Ok piece) means within more = spelt_behind place cs piece.0 piece.1 _ means (more (behind_piece place piece.0) piece.1 within)
spelt_then n place cs (Err e) means within more = Spells.at_refusal place cs e means

spelt_from : (n : ℕ) (place : Place) (cs : List ℕ) → length cs ≤ n → Spells place cs (tokens_from n place cs)
spelt_from n place [] le = subst (Spells place []) (sym (tokens_from-nil n place)) (Spells.at_end place)
spelt_from zero place (c ∷ cs) le = absurd (omega arith)
spelt_from (suc n) place (c ∷ cs) le =
    subst (Spells place (c ∷ cs)) (sym (tokens_first (suc n) n place (c ∷ cs) refl (omega arith)))
    (spelt_then n place (c ∷ cs) (piece_at place (c ∷ cs)) (piece_at-sound place c cs) (less (piece_at place (c ∷ cs)) (piece_at-within place c cs)) (λ next rest le2. spelt_from n next rest le2))
  where
    less : (r : Outcome (Option Token × List ℕ)) → Within (length cs) r → Within n r
    less (Ok piece) h = omega arith
    less (Err e) h = tt

pub tokens_of-sound : (text : List ℕ) → Spells Start (chars text) (tokens_of text)
unfolding tokens_of
tokens_of-sound text = spelt_from (length (chars text)) Start (chars text) (omega arith)

all_spelt : (text characters : List ℕ) → characters ≡ chars text → Spells Start (chars text) (tokens_from (length characters) Start characters)
all_spelt text characters are = subst (λ (cs : List ℕ). Spells Start cs (tokens_from (length characters) Start characters)) are (spelt_from (length characters) Start characters (omega arith))

-- what a function that finds the tokens of a text's characters answers
pub spelt_by : (text characters : List ℕ) (result : Result (List Token) Stop) → characters ≡ chars text → Gives (tokens_from (length characters) Start characters) result → MatchResult result (λ ts. Spells Start (chars text) (Ok ts)) (StopsBy (λ e. Spells Start (chars text) (Err e)))
spelt_by text characters (Ok tokens) are same = subst (Spells Start (chars text)) same (all_spelt text characters are)
spelt_by text characters (Err (Sql e)) are same = subst (Spells Start (chars text)) same (all_spelt text characters are)
spelt_by text characters (Err NoMemory) are same = tt

-- ---- what is spelt is found

all_from : (place : Place) (cs : List ℕ) (r : Outcome (Option Token × List ℕ)) → Reads place cs r → all_tokens place cs ≡ (r >>= piece_then all_tokens place)
all_from place [] r reads = absurd (omega (arith, reads.0))
all_from place (c ∷ cs) r reads = all_tokens-cons place c cs ∙ ap (λ (r : Outcome (Option Token × List ℕ)). r >>= piece_then all_tokens place) reads.1

all_of : (place : Place) (cs : List ℕ) (given : Outcome (List Token)) → Spells place cs given → all_tokens place cs ≡ given
all_of _ _ _ (Spells.at_end place) = all_tokens-nil place
all_of _ _ _ (Spells.behind_gap place cs rest given is more) = all_from place cs _ (reads_of_gap place cs rest is) ∙ sym (nothing_before (all_tokens place rest)) ∙ all_of place rest given more
all_of _ _ _ (Spells.behind_token place cs found rest given is more) = all_from place cs _ (reads_of_token place cs found rest is) ∙ sym (one_before found (all_tokens _ rest)) ∙ ap (with_token found) (all_of _ rest given more)
all_of _ _ _ (Spells.at_refusal place cs e is) = all_from place cs _ (reads_of_refusal place cs e is)

pub tokens_of-complete : (text : List ℕ) (given : Outcome (List Token)) → Spells Start (chars text) given → tokens_of text ≡ given
unfolding tokens_of
tokens_of-complete text given is = all_of Start (chars text) given is

pub spelt_once : (place : Place) (cs : List ℕ) (first second : Outcome (List Token)) → Spells place cs first → Spells place cs second → first ≡ second
spelt_once place cs first second is also = sym (all_of place cs first is) ∙ all_of place cs second also
