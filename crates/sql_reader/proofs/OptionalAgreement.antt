-- Forms of lines that may be left out, come any number of times, or are chosen by several tokens.
use Rattle.std.proofs.Common.{◌≡◌, inl, inr, ⊎_elim, ℕ, zero, suc, ◌≤◌, Bool, true, false, cond, List, [], ◌∷◌, ◌++◌, length, Option, Some, None, refl, sym, ap, subst, ◌∙◌, arith}
use Rattle.std.specs.Prelude.{min}
use Rattle.std.proofs.lemmas.Grind.{common_steps}
use Rattle.std.proofs.lemmas.List.{append_assoc, append-nil}
use Rattle.sql_tokens.specs.declared.token.Token.{Token}
use Rattle.sql_tokens.specs.declared.token.Sign.{Sign}
use Rattle.sql_expr.specs.Reading.{Text, Tokens, Outcome, Parser, and_then, ◌>>=◌, ◌<$>◌, pure, refuse, taken, behind, eat_word, goes_on, sees_word}
use Rattle.sql_expr.specs.Lines.{Line, gives, unless, many, maybe, word as a_word}
use Rattle.sql_expr.specs.Lines as lines
use Rattle.sql_reader_query.specs.Lists.{looking}
use Rattle.sql_expr.proofs.LineWords.{any}
use Rattle.sql_expr.proofs.Heads.{Barred, Head, clear, begins, all_avoid, begins-clear, clear-begins, begins-left, begins-right}
use Rattle.sql_expr.proofs.Agreement.{Agrees, min-left, min-right, Stands, bind_some, bar_word, same_value, same_rest, same_read, read_then, agrees-pure, agrees-bind, agrees-same, agrees-wider, agrees-fewer, agrees-word, agrees-taken}

-- what is barred, and these words and signs
abbrev pub also : List Text → List Sign → Barred → Barred
also words signs b = record { words = words ++ b.words; signs = signs ++ b.signs; names = b.names; numbers = b.numbers; strings = b.strings; params = b.params }

-- a reading function that reads the same
pub agrees-read : {S : Type 0} {n : ℕ} {A : Type 0} {p q : Parser A} {P : Line A} {k : ℕ} {heads : List Head} {tail : Barred}
    → ((ts : Tokens) → p ts ≡ q ts) → Agrees S n p P k heads tail → Agrees S n q P k heads tail
agrees-read same all = record {
  sound = λ s ts a us e. all.sound s ts a us (same ts ∙ e);
  complete = λ ts a us within spelt c. sym (same ts) ∙ all.complete ts a us within spelt c;
  starts = all.starts;
  takes = all.takes;
}

-- ---- what may be left out

min-zero : (k : ℕ) → 0 ≤ min k 0
min-zero k = grind (arith, common_steps)

-- a word and what stands behind it, or else a value of its own
pub agrees-optional : {S : Type 0} {n : ℕ} {A : Type 0} {p : Parser A} {P : Line A} {k : ℕ} {ahead : List Head} {stop : Barred} (w : Text) (value : A) (tail : Barred)
    → Agrees S n p P k ahead stop → all_avoid stop (Head.others tail ∷ []) ≡ true → all_avoid (bar_word w) (Head.others tail ∷ []) ≡ true
    → Agrees S n (eat_word w >>= (λ found. cond found p (pure value))) (lines.◌or◌ (lines.◌>>◌ (a_word w) P) (gives value)) 0 (Head.word w ∷ Head.others tail ∷ []) tail
agrees-optional {k = k} w value tail inner ends apart = agrees-fewer 0 (min-zero (suc k)) (agrees-word w (agrees-wider tail ends inner) (agrees-pure value tail) apart)

maybe-there : {A : Type 0} (w : Text) (P : Line A) (ts : Tokens) (o : Option A) (us : Tokens)
    → (lines.◌or◌ (lines.◌>>◌ (a_word w) (lines.◌<$>◌ Some P)) (gives None)) ts o us → (maybe (lines.◌>>◌ (a_word w) P)) ts o us
maybe-there w P ts o us (inl (u, middle, word, (a, rest, front, given))) = inl (a, rest, (u, middle, word, front), given)
maybe-there w P ts o us (inr none) = inr none

maybe-back : {A : Type 0} (w : Text) (P : Line A) (ts : Tokens) (o : Option A) (us : Tokens)
    → (maybe (lines.◌>>◌ (a_word w) P)) ts o us → (lines.◌or◌ (lines.◌>>◌ (a_word w) (lines.◌<$>◌ Some P)) (gives None)) ts o us
maybe-back w P ts o us (inl (a, rest, (u, middle, word, front), given)) = inl (u, middle, word, (a, rest, front, given))
maybe-back w P ts o us (inr none) = inr none

pub agrees-maybe : {S : Type 0} {n : ℕ} {A : Type 0} {p : Parser A} {P : Line A} {k : ℕ} {ahead : List Head} {stop : Barred} (w : Text) (tail : Barred)
    → Agrees S n p P k ahead stop → all_avoid stop (Head.others tail ∷ []) ≡ true → all_avoid (bar_word w) (Head.others tail ∷ []) ≡ true
    → Agrees S n (eat_word w >>= (λ found. cond found (Some <$> p) (pure None))) (maybe (lines.◌>>◌ (a_word w) P)) 0 (Head.word w ∷ Head.others tail ∷ []) tail
agrees-maybe {P = P} {stop = stop} w tail inner ends apart = agrees-same (maybe-there w P) (maybe-back w P)
    (agrees-fewer 0 (min-zero _) (agrees-word w (agrees-bind inner (λ a. agrees-pure (Some a) tail) ends) (agrees-pure None tail) apart))

-- a list behind a word, or none
pub agrees-any : {S : Type 0} {n : ℕ} {A : Type 0} {p : Parser (List A)} {P : Line (List A)} {k : ℕ} {ahead : List Head} {stop : Barred} (w : Text) (tail : Barred)
    → Agrees S n p P k ahead stop → all_avoid stop (Head.others tail ∷ []) ≡ true → all_avoid (bar_word w) (Head.others tail ∷ []) ≡ true
    → Agrees S n (eat_word w >>= (λ found. cond found p (pure []))) (any (lines.◌>>◌ (a_word w) P)) 0 (Head.word w ∷ Head.others tail ∷ []) tail
agrees-any w tail inner ends apart = agrees-optional w [] tail inner ends apart

-- a token that stands for a value, or none
bind_pure : {A : Type 0} (o : Outcome A) → and_then o pure ≡ o
bind_pure (Some p) = refl
bind_pure None = refl

pub agrees-given : {S : Type 0} {n : ℕ} {A : Type 0} {value_of : Token → Option A} {T : Line A} {heads : List Head} {bar : Barred} (tail : Barred)
    → Stands value_of T heads bar → all_avoid bar (Head.others tail ∷ []) ≡ true
    → Agrees S n (taken value_of) (maybe T) 0 (heads ++ Head.others tail ∷ []) tail
agrees-given {n = n} {value_of = value_of} tail stands apart = agrees-read (λ ts. bind_pure (taken value_of ts))
    (agrees-taken {n = n} pure (omega arith) stands (λ a. agrees-pure (Some a) tail) (agrees-pure None tail) apart)

-- ---- choices by several tokens, of which the test reads none

pub agrees-looking : {S : Type 0} {n : ℕ} {B : Type 0} {sees : Tokens → Bool} {p q : Parser B} {P Q : Line B} {k m : ℕ} {ahead heads : List Head} {tail : Barred}
    → ((ts : Tokens) (b : B) (us : Tokens) → P ts b us → sees ts ≡ true)
    → ((ts : Tokens) (b : B) (us : Tokens) → Q ts b us → clear tail us ≡ true → sees ts ≡ false)
    → Agrees S n p P k ahead tail → Agrees S n q Q m heads tail
    → Agrees S n (looking sees >>= (λ found. cond found p q)) (lines.◌or◌ P Q) (min k m) (ahead ++ heads) tail
agrees-looking {S = S} {B = B} {sees = sees} {p = p} {q = q} {P = P} {Q = Q} {k = k} {m = m} {ahead = ahead} {heads = heads} seen unseen found_so not_so = record {
  sound = λ s ts b us e. sound-by s ts b us (sees ts) refl e;
  complete = λ ts b us within spelt c. ⊎_elim
      (λ left. ap (λ x. cond x p q ts) (seen ts b us left) ∙ found_so.complete ts b us within left c)
      (λ right. ap (λ x. cond x p q ts) (unseen ts b us right c) ∙ not_so.complete ts b us within right c)
      spelt;
  starts = λ ts b us spelt c. ⊎_elim
      (λ left. begins-left ahead heads ts (found_so.starts ts b us left c))
      (λ right. begins-right ahead heads ts (not_so.starts ts b us right c))
      spelt;
  takes = λ ts b us spelt. ⊎_elim
      (λ left. let some = found_so.takes ts b us left in let least = min-left k m in omega arith)
      (λ right. let some = not_so.takes ts b us right in let least = min-right k m in omega arith)
      spelt;
}
  where
    sound-by : S → (ts : Tokens) (b : B) (us : Tokens) (found : Bool) → sees ts ≡ found → cond (sees ts) p q ts ≡ Some (b, us) → (lines.◌or◌ P Q) ts b us
    sound-by s ts b us true seen_so e = inl (found_so.sound s ts b us (subst (λ x. cond x p q ts ≡ Some (b, us)) seen_so e))
    sound-by s ts b us false seen_so e = inr (not_so.sound s ts b us (subst (λ x. cond x p q ts ≡ Some (b, us)) seen_so e))

-- The same where the line itself says that the tokens of the test don't come next.
pub agrees-looking-unless : {S : Type 0} {n : ℕ} {A B : Type 0} {sees : Tokens → Bool} {L : Line A} {p q : Parser B} {P Q : Line B} {k m : ℕ} {inner heads : List Head} {tail : Barred}
    → ((ts : Tokens) → sees ts ≡ true → (a : A) × (vs : Tokens) × L ts a vs) → ((ts : Tokens) (a : A) (vs : Tokens) → L ts a vs → sees ts ≡ true)
    → ((ts : Tokens) (b : B) (us : Tokens) → P ts b us → sees ts ≡ true)
    → Agrees S n p P k inner tail → Agrees S n q Q m heads tail
    → Agrees S n (looking sees >>= (λ found. cond found p q)) (lines.◌or◌ P (lines.◌>>◌ (unless L) Q)) (min k m) (inner ++ heads) tail
agrees-looking-unless {S = S} {A = A} {B = B} {sees = sees} {L = L} {p = p} {q = q} {P = P} {Q = Q} {k = k} {m = m} {inner = inner} {heads = heads} shows sure seen found_so not_so = record {
  sound = λ s ts b us e. sound-by s ts b us (sees ts) refl e;
  complete = λ ts b us within spelt c. ⊎_elim
      (λ left. ap (λ x. cond x p q ts) (seen ts b us left) ∙ found_so.complete ts b us within left c)
      (λ right. ap (λ x. cond x p q ts) (unseen ts right.2.1 (sees ts) refl) ∙ not_so.complete ts b us within (subst (λ vs. Q vs b us) right.2.0 right.3) c)
      spelt;
  starts = λ ts b us spelt c. ⊎_elim
      (λ left. begins-left inner heads ts (found_so.starts ts b us left c))
      (λ right. begins-right inner heads ts (not_so.starts ts b us (subst (λ vs. Q vs b us) right.2.0 right.3) c))
      spelt;
  takes = λ ts b us spelt. ⊎_elim
      (λ left. let some = found_so.takes ts b us left in let least = min-left k m in omega arith)
      (λ right. let some = not_so.takes ts b us (subst (λ vs. Q vs b us) right.2.0 right.3) in let least = min-right k m in omega arith)
      spelt;
}
  where
    unseen : (ts : Tokens) → ((a : A) (vs : Tokens) → ¬ L ts a vs) → (found : Bool) → sees ts ≡ found → sees ts ≡ false
    unseen ts none true e = let there = shows ts e in absurd (none there.0 there.1 there.2)
    unseen ts none false e = e

    clashes : (ts : Tokens) → sees ts ≡ false → (a : A) (vs : Tokens) → ¬ L ts a vs
    clashes ts e a vs spelt = let both = sym e ∙ sure ts a vs spelt in cc

    sound-by : S → (ts : Tokens) (b : B) (us : Tokens) (found : Bool) → sees ts ≡ found → cond (sees ts) p q ts ≡ Some (b, us) → (lines.◌or◌ P (lines.◌>>◌ (unless L) Q)) ts b us
    sound-by s ts b us true seen_so e = inl (found_so.sound s ts b us (subst (λ x. cond x p q ts ≡ Some (b, us)) seen_so e))
    sound-by s ts b us false seen_so e = inr (tt, ts, (refl, clashes ts seen_so), not_so.sound s ts b us (subst (λ x. cond x p q ts ≡ Some (b, us)) seen_so e))

-- ---- any number, read while a further one comes next

-- what is read of one way is read so of another
pub record Less {A : Type 0} (p q : Parser A) : Type 0 where
  pub same : (ts : Tokens) (a : A) (us : Tokens) → p ts ≡ Some (a, us) → q ts ≡ Some (a, us)

pub less-refuse : {A : Type 0} {q : Parser A} → Less refuse q
less-refuse = record { same = λ ts a us e. cc }

pub less-word : {A : Type 0} {p q : Parser A} (w : Text) (r : Parser A) → Less p q → Less (eat_word w >>= (λ found. cond found r p)) (eat_word w >>= (λ found. cond found r q))
less-word {A = A} {p = p} {q = q} w r less = record { same = λ ts a us e. by ts a us (sees_word w ts) e }
  where
    by : (ts : Tokens) (a : A) (us : Tokens) (found : Bool) → cond found r p (behind found ts) ≡ Some (a, us) → cond found r q (behind found ts) ≡ Some (a, us)
    by ts a us true e = e
    by ts a us false e = less.same ts a us e

-- what was read of a list
record Found {A : Type 0} (P : Line A) (found : List A) (ts : Tokens) (all : List A) (us : Tokens) : Type 0 where
  more : List A
  spelt : many P ts more us
  joined : all ≡ found ++ more

-- `next` reads a further item or nothing, and `certain` the same but that it refuses where none comes next.
module _ {S : Type 0} {n : ℕ} {A : Type 0} {next certain : Parser (Option A)} {P : Line A} {heads some : List Head} {stop bar : Barred}
    (loop : ℕ → List A → Parser (List A))
    (last : (found : List A) (ts : Tokens) → loop zero found ts ≡ Some (found, ts))
    (turn : (turns : ℕ) (found : List A) (ts : Tokens) → loop (suc turns) found ts ≡ and_then (next ts) (λ o. goes_on o (λ a. loop turns (found ++ a ∷ [])) found))
    (each : Agrees S n certain (lines.◌<$>◌ Some P) 1 heads stop) (either : Agrees S n next (maybe P) 0 some bar) (less : Less certain next) where
  many-sound : S → (turns : ℕ) (found : List A) (ts : Tokens) (all : List A) (us : Tokens) → loop turns found ts ≡ Some (all, us) → Found P found ts all us
  many-sound s zero found ts all us read =
      let e = sym (last found ts) ∙ read in
      record { more = []; spelt = same_rest found all ts us e; joined = same_value found all ts us e ∙ sym (append-nil found) }
  many-sound s (suc turns) found ts all us read =
      let parts = bind_some (next ts) (λ o. goes_on o (λ a. loop turns (found ++ a ∷ [])) found) all us (sym (turn turns found ts) ∙ read) in
      ⊎_elim
      (λ left.
      let a = left.0 in
      let e = left.3 in
      let ended = subst (λ o. goes_on o (λ x. loop turns (found ++ x ∷ [])) found parts.middle ≡ Some (all, us)) e.0 parts.ended in
      let later = many-sound s turns (found ++ a ∷ []) parts.middle all us ended in
      record { more = a ∷ later.more; spelt = (left.1, left.2, subst (λ vs. many P vs later.more us) e.1 later.spelt); joined = later.joined ∙ append_assoc found (a ∷ []) later.more })
      (λ right.
      let ended = subst (λ o. goes_on o (λ x. loop turns (found ++ x ∷ [])) found parts.middle ≡ Some (all, us)) right.0 parts.ended in
      record { more = []; spelt = same_rest found all parts.middle us ended ∙ right.1; joined = same_value found all parts.middle us ended ∙ sym (append-nil found) })
      (either.sound s ts parts.a parts.middle parts.begun)

  many-takes : (ts : Tokens) (more : List A) (us : Tokens) → many P ts more us → length us ≤ length ts
  many-takes ts [] us spelt = let same = ap length spelt in omega (arith, same)
  many-takes ts (a ∷ more) us spelt =
      let here = each.takes ts (Some a) spelt.0 (a, spelt.0, spelt.1, (refl, refl)) in
      let rest = many-takes spelt.0 more us spelt.2 in omega (arith, here, rest)

  module _ (tail : Barred) (apart : all_avoid stop (heads ++ Head.others tail ∷ []) ≡ true) (ends : all_avoid bar (Head.others tail ∷ []) ≡ true) where
    many-starts : (ts : Tokens) (more : List A) (us : Tokens) → many P ts more us → clear tail us ≡ true → begins (heads ++ Head.others tail ∷ []) ts ≡ true
    many-starts ts [] us spelt c = begins-right heads (Head.others tail ∷ []) ts (clear-begins tail ts (subst (λ vs. clear tail vs ≡ true) spelt c))
    many-starts ts (a ∷ more) us spelt c = begins-left heads (Head.others tail ∷ []) ts
        (each.starts ts (Some a) spelt.0 (a, spelt.0, spelt.1, (refl, refl)) (begins-clear stop (heads ++ Head.others tail ∷ []) spelt.0 apart (many-starts spelt.0 more us spelt.2 c)))

    many-complete : (turns : ℕ) (found : List A) (ts : Tokens) (more : List A) (us : Tokens) → length ts ≤ turns → length ts ≤ n → many P ts more us → clear tail us ≡ true
        → loop turns found ts ≡ Some (found ++ more, us)
    many-complete zero found ts [] us enough within spelt c = last found ts ∙ same_read found (found ++ []) ts us (append-nil found) spelt
    many-complete zero found ts (a ∷ more) us enough within spelt c =
        let here = each.takes ts (Some a) spelt.0 (a, spelt.0, spelt.1, (refl, refl)) in absurd (omega arith)
    many-complete (suc turns) found ts [] us enough within spelt c =
        let free = begins-clear bar (Head.others tail ∷ []) ts ends (clear-begins tail ts (subst (λ vs. clear tail vs ≡ true) spelt c)) in
        let none = either.complete ts None ts within (inr (refl, refl)) free in
        turn turns found ts ∙ (read_then (λ o. goes_on o (λ x. loop turns (found ++ x ∷ [])) found) None ts none refl ∙ same_read found (found ++ []) ts us (append-nil found) spelt)
    many-complete (suc turns) found ts (a ∷ more) us enough within spelt c =
        let here : (lines.◌<$>◌ Some P) ts (Some a) spelt.0 = (a, spelt.0, spelt.1, (refl, refl)) in
        let shorter = each.takes ts (Some a) spelt.0 here in
        let free = begins-clear stop (heads ++ Head.others tail ∷ []) spelt.0 apart (many-starts spelt.0 more us spelt.2 c) in
        let read = less.same ts (Some a) spelt.0 (each.complete ts (Some a) spelt.0 within here free) in
        turn turns found ts ∙ (read_then (λ o. goes_on o (λ x. loop turns (found ++ x ∷ [])) found) (Some a) spelt.0 read
        (many-complete turns (found ++ a ∷ []) spelt.0 more us (omega arith) (omega arith) spelt.2 c) ∙ ap (λ l. Some (l, us)) (append_assoc found (a ∷ []) more))

    pub agrees-many : Agrees S n (λ ts. loop (length ts) [] ts) (many P) 0 (heads ++ Head.others tail ∷ []) tail
    agrees-many = record {
      sound = λ s ts all us read. let f = many-sound s (length ts) [] ts all us read in subst (λ l. many P ts l us) (sym f.joined) f.spelt;
      complete = λ ts all us within spelt c. many-complete (length ts) [] ts all us (omega arith) within spelt c;
      starts = many-starts;
      takes = λ ts all us spelt. let less = many-takes ts all us spelt in omega arith;
    }
