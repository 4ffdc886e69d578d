-- Lines with a part that may be left out, and words that are a keyword by what stands behind them.
use Rattle.std.proofs.Common.{◌≡◌, inl, inr, ⊎_elim, ℕ, suc, ◌≤◌, Bool, true, false, cond, ◌&&◌, List, [], ◌∷◌, length, drop, Option, Some, None, codes, refl, sym, ap, subst, ◌∙◌, arith}
use Rattle.std.specs.Prelude.{is_some, min}
use Prim.Native.String.{String}
use Rattle.std.proofs.lemmas.Grind.{common_steps}
use Rattle.sql_tokens.specs.declared.token.Token.TheVariants as token
use Rattle.sql_expr.specs.Reading.{Text, Tokens, Parser, ◌>>=◌, ◌>>◌, ◌<$>◌, pure, required, behind, eat_word, sees_word}
use Rattle.sql_expr.specs.Names.{name_of, sees_name}
use Rattle.sql_expr.specs.Lines.{Line, gives, ahead, unless, word as a_word, name, maybe, TakesToken}
use Rattle.sql_expr.specs.Lines as lines
use Rattle.sql_reader_session.specs.Keywords.{eat_either}
use Rattle.sql_expr.proofs.Heads.{Barred, Head, clear, begins, all_avoid, clear-begins, begins-left, begins-right, and-left, and-right}
use Rattle.sql_expr.proofs.Agreement.{Agrees, min-left, min-right, tests-word, word-seen, sees-word, eaten, nothing, bar_word, bind_some, same_value, same_rest, same_read, read_then, agrees-test, agrees-same, agrees-fewer}
use Rattle.sql_expr.proofs.TokenKinds.{stands-name}

-- `[P] Q` is `P Q | Q`
pub agrees-bracket : {S : Type 0} {n : ℕ} {A B : Type 0} {p : Parser B} {P : Line A} {Q : Line B} {k : ℕ} {heads : List Head} {tail : Barred}
    → Agrees S n p (lines.◌or◌ (lines.◌>>◌ P Q) Q) k heads tail → Agrees S n p (lines.◌>>◌ (maybe P) Q) k heads tail
agrees-bracket {A = A} {B = B} {P = P} {Q = Q} all = agrees-same there back all
  where
    there : (ts : Tokens) (b : B) (us : Tokens) → (lines.◌or◌ (lines.◌>>◌ P Q) Q) ts b us → (lines.◌>>◌ (maybe P) Q) ts b us
    there ts b us (inl (a, middle, front, rest)) = (Some a, middle, inl (a, middle, front, (refl, refl)), rest)
    there ts b us (inr rest) = (None, ts, inr (refl, refl), rest)

    back : (ts : Tokens) (b : B) (us : Tokens) → (lines.◌>>◌ (maybe P) Q) ts b us → (lines.◌or◌ (lines.◌>>◌ P Q) Q) ts b us
    back ts b us (o, middle, inl (a, behind_it, front, same), rest) = inl (a, behind_it, front, subst (λ vs. Q vs b us) same.1 rest)
    back ts b us (o, middle, inr same, rest) = inr (subst (λ vs. Q vs b us) same.1 rest)

-- whether it is written
pub agrees-flag : {S : Type 0} {n : ℕ} {B : Type 0} {p : Parser B} {P : Line (Unit {0})} {R : Bool → Line B} {k : ℕ} {heads : List Head} {tail : Barred}
    → Agrees S n p (lines.◌or◌ (lines.◌>>◌ P (R true)) (R false)) k heads tail → Agrees S n p (lines.◌>>=◌ (lines.◌or◌ (lines.◌>>◌ P (gives true)) (gives false)) R) k heads tail
agrees-flag {B = B} {P = P} {R = R} all = agrees-same there back all
  where
    there : (ts : Tokens) (b : B) (us : Tokens) → (lines.◌or◌ (lines.◌>>◌ P (R true)) (R false)) ts b us → (lines.◌>>=◌ (lines.◌or◌ (lines.◌>>◌ P (gives true)) (gives false)) R) ts b us
    there ts b us (inl (u, middle, front, rest)) = (true, middle, inl (u, middle, front, (refl, refl)), rest)
    there ts b us (inr rest) = (false, ts, inr (refl, refl), rest)

    back : (ts : Tokens) (b : B) (us : Tokens) → (lines.◌>>=◌ (lines.◌or◌ (lines.◌>>◌ P (gives true)) (gives false)) R) ts b us → (lines.◌or◌ (lines.◌>>◌ P (R true)) (R false)) ts b us
    back ts b us (flag, middle, inl (u, start, front, same), rest) = inl (u, start, front, subst (λ f. R f start b us) same.0 (subst (λ vs. R flag vs b us) same.1 rest))
    back ts b us (flag, middle, inr same, rest) = inr (subst (λ f. R f ts b us) same.0 (subst (λ vs. R flag vs b us) same.1 rest))

least-of : (k : ℕ) → k ≤ min (suc k) (min (suc k) k)
least-of k = grind (arith, common_steps)

-- `[FIRST | SECOND] Q`
pub agrees-either : {S : Type 0} {n : ℕ} {B : Type 0} {q : Parser B} {Q : Line B} {k : ℕ} {heads : List Head} {tail : Barred} (first second : Text)
    → all_avoid (bar_word first) (Head.word second ∷ heads) ≡ true → all_avoid (bar_word second) heads ≡ true → Agrees S n q Q k heads tail
    → Agrees S n (eat_either first second >> q) (lines.◌>>◌ (maybe (lines.◌or◌ (a_word first) (a_word second))) Q) k (Head.word first ∷ Head.word second ∷ heads) tail
agrees-either {S = S} {n = n} {B = B} {q = q} {Q = Q} {k = k} first second apart apart_too all = agrees-bracket (agrees-same there back (agrees-fewer k (least-of k)
    (agrees-test (λ found. cond found (pure true) (eat_word second) >>= (λ _. q)) (omega arith) (tests-word first) all (agrees-test (λ _. q) (omega arith) (tests-word second) all all apart_too) apart)))
  where
    there : (ts : Tokens) (b : B) (us : Tokens) → (lines.◌or◌ (lines.◌>>◌ (a_word first) Q) (lines.◌or◌ (lines.◌>>◌ (a_word second) Q) Q)) ts b us
        → (lines.◌or◌ (lines.◌>>◌ (lines.◌or◌ (a_word first) (a_word second)) Q) Q) ts b us
    there ts b us (inl (u, middle, front, rest)) = inl (u, middle, inl front, rest)
    there ts b us (inr (inl (u, middle, front, rest))) = inl (u, middle, inr front, rest)
    there ts b us (inr (inr rest)) = inr rest

    back : (ts : Tokens) (b : B) (us : Tokens) → (lines.◌or◌ (lines.◌>>◌ (lines.◌or◌ (a_word first) (a_word second)) Q) Q) ts b us
        → (lines.◌or◌ (lines.◌>>◌ (a_word first) Q) (lines.◌or◌ (lines.◌>>◌ (a_word second) Q) Q)) ts b us
    back ts b us (inl (u, middle, inl front, rest)) = inl (u, middle, front, rest)
    back ts b us (inl (u, middle, inr front, rest)) = inr (inl (u, middle, front, rest))
    back ts b us (inr rest) = inr (inr rest)

-- ---- values

pub agrees-map : {S : Type 0} {n : ℕ} {A B : Type 0} {p : Parser A} {P : Line A} {k : ℕ} {heads : List Head} {tail : Barred} (f : A → B)
    → Agrees S n p P k heads tail → Agrees S n (f <$> p) (lines.◌<$>◌ f P) k heads tail
agrees-map {p = p} {tail = tail} f all = record {
  sound = λ s ts b us e.
      let parts = bind_some (p ts) (λ a. pure (f a)) b us e in
      (parts.a, parts.middle, all.sound s ts parts.a parts.middle parts.begun, (same_value (f parts.a) b parts.middle us parts.ended, same_rest (f parts.a) b parts.middle us parts.ended));
  complete = λ ts b us within spelt c.
      let same = spelt.3 in
      read_then (λ a. pure (f a)) spelt.0 spelt.1 (all.complete ts spelt.0 spelt.1 within spelt.2 (subst (λ vs. clear tail vs ≡ true) same.1 c)) (same_read (f spelt.0) b spelt.1 us same.0 same.1);
  starts = λ ts b us spelt c. all.starts ts spelt.0 spelt.1 spelt.2 (subst (λ vs. clear tail vs ≡ true) spelt.3.1 c);
  takes = λ ts b us spelt. let more = all.takes ts spelt.0 spelt.1 spelt.2 in let same = ap length spelt.3.1 in omega arith;
}

-- a value that there has to be
abbrev pub exactly : {A : Type 0} → Option A → Line A
exactly o ts a us = (o ≡ Some a) × (us ≡ ts)

pub agrees-required : {S : Type 0} {n : ℕ} {A : Type 0} (o : Option A) (tail : Barred) → Agrees S n (required o) (exactly o) 0 (Head.others tail ∷ []) tail
agrees-required {A = A} o tail = record {
  sound = λ s ts a us e. sound-by o ts a us e;
  complete = λ ts a us within spelt c. ap (λ x. required x ts) spelt.0 ∙ ap (λ vs. Some (a, vs)) (sym spelt.1);
  starts = λ ts a us spelt c. clear-begins tail ts (subst (λ vs. clear tail vs ≡ true) spelt.1 c);
  takes = λ ts a us spelt. let same = ap length spelt.1 in omega arith;
}
  where
    sound-by : (o : Option A) (ts : Tokens) (a : A) (us : Tokens) → required o ts ≡ Some (a, us) → exactly o ts a us
    sound-by (Some b) ts a us e = (ap Some (sym (same_value b a ts us e)), same_rest b a ts us e)
    sound-by None ts a us e = cc

-- ---- heads

pub clear-nothing : (ts : Tokens) → clear nothing ts ≡ true
clear-nothing [] = refl
clear-nothing (token.Word w ∷ ts) = refl
clear-nothing (token.Quoted q ∷ ts) = refl
clear-nothing (token.Sign s ∷ ts) = refl
clear-nothing (token.Number d ∷ ts) = refl
clear-nothing (token.Text x ∷ ts) = refl
clear-nothing (token.Param d ∷ ts) = refl
clear-nothing (token.Backslash l ∷ ts) = refl

-- all that can come next is a head of these
abbrev pub anything : List Head
anything = Head.others nothing ∷ []

pub begins-anything : (ts : Tokens) → begins anything ts ≡ true
begins-anything ts = clear-begins nothing ts (clear-nothing ts)

pub agrees-anything : {S : Type 0} {n : ℕ} {A : Type 0} {p : Parser A} {P : Line A} {k : ℕ} {heads : List Head} {tail : Barred} → Agrees S n p P k heads tail → Agrees S n p P 0 anything tail
agrees-anything all = record {
  sound = all.sound;
  complete = all.complete;
  starts = λ ts a us spelt c. begins-anything ts;
  takes = λ ts a us spelt. let more = all.takes ts a us spelt in omega arith;
}

-- ---- a word that is the keyword by what stands behind it

-- the word, with what follows behind it
abbrev pub sees_before : Text → (Tokens → Bool) → Tokens → Bool
sees_before w follows ts = sees_word w ts && follows (drop 1 ts)

pub both-true : (a b : Bool) → a ≡ true → b ≡ true → (a && b) ≡ true
both-true true b e k = k
both-true false b e k = cc

-- A test of the next tokens, which says whether the word stands before the line.
pub record Looks {A : Type 0} (test : Tokens → Bool) (w : Text) (F : Line A) : Type 0 where
  pub yes : (ts : Tokens) → test ts ≡ true → TakesToken (token.Word w) ts (drop 1 ts) × ((a : A) × (vs : Tokens) × F (drop 1 ts) a vs)
  pub sure : (us : Tokens) (a : A) (vs : Tokens) → F us a vs → test (token.Word w ∷ us) ≡ true

pub agrees-keyword : {S : Type 0} {n : ℕ} {A B : Type 0} {test : Tokens → Bool} {F : Line A} {P Q : Line B} {k m : ℕ} {inner heads : List Head} {tail : Barred} (w : Text) (f : Bool → Parser B)
    → Looks test w F → Agrees S n (f true) P k inner tail → Agrees S n (f false) Q m heads tail
    → Agrees S n (eaten test >>= f) (lines.◌or◌ (lines.◌>>◌ (a_word w) (lines.◌>>◌ (ahead F) P)) (lines.◌>>◌ (unless (lines.◌>>◌ (a_word w) F)) Q)) (min (suc k) m) (Head.word w ∷ heads) tail
agrees-keyword {S = S} {A = A} {B = B} {test = test} {F = F} {P = P} {Q = Q} {k = k} {m = m} {heads = heads} w f look found_so not_so = record {
  sound = λ s ts b us e. sound-by s ts b us (test ts) refl e;
  complete = λ ts b us within spelt c. ⊎_elim
      (λ left.
      let here = left.2.tokens in
      let next = left.3 in
      let shorter = ap length here in
      let seen = ap test here ∙ look.sure left.1 next.2.1.0 next.2.1.1 next.2.1.2 in
      let rest = subst (λ vs. P vs b us) next.2.0 next.3 in
      ap (λ x. f x (behind x ts)) seen ∙ (ap (f true) (ap (drop 1) here) ∙ found_so.complete left.1 b us (omega arith) rest c))
      (λ right.
      let rest = subst (λ vs. Q vs b us) right.2.0 right.3 in
      ap (λ x. f x (behind x ts)) (unseen ts right.2.1 (test ts) refl) ∙ not_so.complete ts b us within rest c)
      spelt;
  starts = λ ts b us spelt c. ⊎_elim
      (λ left. begins-left (Head.word w ∷ []) heads ts ((tests-word w).known ts left.0 left.1 left.2).3)
      (λ right. begins-right (Head.word w ∷ []) heads ts (not_so.starts ts b us (subst (λ vs. Q vs b us) right.2.0 right.3) c))
      spelt;
  takes = λ ts b us spelt. ⊎_elim
      (λ left.
      let shorter = ap length left.2.tokens in
      let next = left.3 in
      let more = found_so.takes left.1 b us (subst (λ vs. P vs b us) next.2.0 next.3) in
      let least = min-left (suc k) m in omega arith)
      (λ right. let more = not_so.takes ts b us (subst (λ vs. Q vs b us) right.2.0 right.3) in let least = min-right (suc k) m in omega arith)
      spelt;
}
  where
    clashes : (ts : Tokens) → test ts ≡ false → (a : A) (vs : Tokens) → ¬ (lines.◌>>◌ (a_word w) F) ts a vs
    clashes ts q a vs (u, middle, here, front) = let seen = sym q ∙ (ap test here.tokens ∙ look.sure middle a vs front) in cc

    unseen : (ts : Tokens) → ((a : A) (vs : Tokens) → ¬ (lines.◌>>◌ (a_word w) F) ts a vs) → (b : Bool) → test ts ≡ b → test ts ≡ false
    unseen ts none true q = let seen = look.yes ts q in absurd (none seen.1.0 seen.1.1 (tt, drop 1 ts, seen.0, seen.1.2))
    unseen ts none false q = q

    sound-by : S → (ts : Tokens) (b : B) (us : Tokens) (found : Bool) → test ts ≡ found → f (test ts) (behind (test ts) ts) ≡ Some (b, us)
        → (lines.◌or◌ (lines.◌>>◌ (a_word w) (lines.◌>>◌ (ahead F) P)) (lines.◌>>◌ (unless (lines.◌>>◌ (a_word w) F)) Q)) ts b us
    sound-by s ts b us true q e =
        let seen = look.yes ts q in
        inl (tt, drop 1 ts, seen.0, (tt, drop 1 ts, (refl, seen.1), found_so.sound s (drop 1 ts) b us (subst (λ x. f x (behind x ts) ≡ Some (b, us)) q e)))
    sound-by s ts b us false q e = inr (tt, ts, (refl, clashes ts q), not_so.sound s ts b us (subst (λ x. f x (behind x ts) ≡ Some (b, us)) q e))

least-before : (k : ℕ) → k ≤ min (suc k) k
least-before k = grind (arith, common_steps)

-- the word may be left out, and the same is read behind it and without it
pub agrees-before : {S : Type 0} {n : ℕ} {A B : Type 0} {test : Tokens → Bool} {F : Line A} {p : Parser B} {P : Line B} {k : ℕ} {heads : List Head} {tail : Barred} (keyword : String)
    → Looks test (codes keyword) F → Agrees S n p P k heads tail
    → Agrees S n (λ ts. p (behind (test ts) ts)) (lines.◌>>◌ (lines.before keyword F) P) k (Head.word (codes keyword) ∷ heads) tail
agrees-before {B = B} {F = F} {p = p} {P = P} {k = k} keyword look each = agrees-same there back (agrees-fewer k (least-before k) (agrees-keyword (codes keyword) (λ found. p) look each each))
  where
    parted : Line B
    parted = lines.◌or◌ (lines.◌>>◌ (a_word (codes keyword)) (lines.◌>>◌ (ahead F) P)) (lines.◌>>◌ (unless (lines.◌>>◌ (a_word (codes keyword)) F)) P)

    there : (ts : Tokens) (b : B) (us : Tokens) → parted ts b us → (lines.◌>>◌ (lines.before keyword F) P) ts b us
    there ts b us (inl (u, middle, here, (v, start, front, rest))) = (v, start, inl (u, middle, here, front), rest)
    there ts b us (inr (v, start, none, rest)) = (v, start, inr none, rest)

    back : (ts : Tokens) (b : B) (us : Tokens) → (lines.◌>>◌ (lines.before keyword F) P) ts b us → parted ts b us
    back ts b us (v, start, inl (u, middle, here, front), rest) = inl (u, middle, here, (v, start, front, rest))
    back ts b us (v, start, inr none, rest) = inr (v, start, none, rest)

-- ---- names that come next

pub name-there : (us : Tokens) → sees_name us ≡ true → (n : Text) × name us n (drop 1 us)
unfolding sees_name
name-there [] e = cc
name-there (t ∷ us) e = by (name_of t) refl
  where
    by : (o : Option Text) → name_of t ≡ o → (n : Text) × name (t ∷ us) n us
    by (Some n) q = (n, stands-name.there (t ∷ us) n us (t, record { tokens = refl }, q))
    by None q = let none = sym e ∙ ap is_some q in cc

pub name-sees : (us : Tokens) (n : Text) (vs : Tokens) → name us n vs → sees_name us ≡ true
unfolding sees_name
name-sees us n vs spelt = let here = stands-name.back us n vs spelt in ap sees_name here.1.tokens ∙ ap is_some here.2

pub behind-name : (us : Tokens) (n : Text) (vs : Tokens) → name us n vs → vs ≡ drop 1 us
behind-name us n vs spelt = sym (ap (drop 1) (stands-name.back us n vs spelt).1.tokens)

pub looks-name : (w : Text) → Looks (sees_before w sees_name) w name
looks-name w = record {
  yes = λ ts e.
      let found = name-there (drop 1 ts) (and-right (sees_word w ts) (sees_name (drop 1 ts)) e) in
      (word-seen w ts (and-left (sees_word w ts) (sees_name (drop 1 ts)) e), (found.0, drop 1 (drop 1 ts), found.1));
  sure = λ us n vs spelt. both-true (sees_word w (token.Word w ∷ us)) (sees_name us) (sees-word w us) (name-sees us n vs spelt);
}
