-- A reading function agrees with a line: what it reads is spelt so, and what is spelt so is read, whatever
-- follows that can't go on with it.
use Rattle.std.proofs.Common.{◌≡◌, ◌⊎◌, inl, inr, ⊎_elim, ℕ, suc, ◌+◌, ◌≤◌, Bool, true, false, cond, not, ◌&&◌, ◌||◌, List, [], ◌∷◌, ◌++◌, length, drop, Option, Some, None, codes, refl, sym, ap, subst, ◌∙◌, arith}
use Rattle.std.specs.Prelude.{is_some, min}
use Prim.Native.String.{String}
use Rattle.std.specs.List.{list_any}
use Rattle.std.specs.Str.{bytes_eq}
use Rattle.std.proofs.lemmas.Grind.{common_steps}
use Rattle.std.proofs.lemmas.Slice.Eq.{bytes_eq-Decides}
use denote.Enum.Bare.{same_true, true_same}
use Rattle.sql_tokens.specs.declared.token.Token.{Token}
use Rattle.sql_tokens.specs.declared.token.Token.TheVariants as token
use Rattle.sql_tokens.specs.declared.token.Sign.{Sign}
use Rattle.sql_tokens.specs.contracts.token.Sign.{the_type}
use Rattle.sql_expr.specs.Reading.{Text, Tokens, Outcome, Parser, and_then, ◌>>=◌, pure, refuse, taken, taken_first, required, behind, eat_word, eat_sign, expect_word, expect_sign, sees_word, sees_sign, same_sign}
use Rattle.sql_expr.specs.Lines.{Line, TakesToken, gives, unless, word as a_word, mark}
use Rattle.sql_expr.specs.Lines as lines
use Rattle.sql_expr.proofs.LineWords.{nowhere}
use Rattle.sql_expr.proofs.Heads.{Barred, Head, bars, clear, is, begins, all_avoid, begins-clear, clear-begins, begins-left, begins-right, not-true}
pub use Rattle.sql_expr.proofs.Leaving.{Parts, bind_some, same_rest}

-- S is needed for what is read to be spelt; what is spelt is read of at most n tokens. At least k tokens are read, and
-- the first stands for one of the heads, where none comes behind the last that is barred.
pub record Agrees {A : Type 0} (S : Type 0) (n : ℕ) (read : Parser A) (spelt : Line A) (k : ℕ) (heads : List Head) (tail : Barred) : Type 0 where
  pub sound : S → (ts : Tokens) (a : A) (us : Tokens) → read ts ≡ Some (a, us) → spelt ts a us
  pub complete : (ts : Tokens) (a : A) (us : Tokens) → length ts ≤ n → spelt ts a us → clear tail us ≡ true → read ts ≡ Some (a, us)
  pub starts : (ts : Tokens) (a : A) (us : Tokens) → spelt ts a us → clear tail us ≡ true → begins heads ts ≡ true
  pub takes : (ts : Tokens) (a : A) (us : Tokens) → spelt ts a us → k + length us ≤ length ts

abbrev pub nothing : Barred
nothing = record { words = []; signs = []; names = false; numbers = false; strings = false; params = false }

abbrev pub bar_word : Text → Barred
bar_word w = record { words = w ∷ []; signs = []; names = false; numbers = false; strings = false; params = false }

abbrev pub bar_sign : Sign → Barred
bar_sign s = record { words = []; signs = s ∷ []; names = false; numbers = false; strings = false; params = false }

-- ---- what was read

value_or : {A : Type 0} → A → Outcome A → A
value_or d (Some p) = p.0
value_or d None = d

pub same_value : {A : Type 0} (a b : A) (ts us : Tokens) → ◌≡◌ {A = Outcome A} (Some (a, ts)) (Some (b, us)) → b ≡ a
unfolding value_or
same_value a b ts us e = sym (ap (value_or a) e)

pub same_read : {A : Type 0} (a b : A) (ts us : Tokens) → b ≡ a → us ≡ ts → ◌≡◌ {A = Outcome A} (Some (a, ts)) (Some (b, us))
same_read a b ts us e f = ap (λ x. Some (x, ts)) (sym e) ∙ ap (λ vs. Some (b, vs)) (sym f)

pub read_then : {A B : Type 0} {first : Outcome A} (f : A → Parser B) (a : A) (middle : Tokens) {b : Outcome B} → first ≡ Some (a, middle) → f a middle ≡ b → and_then first f ≡ b
read_then f a middle e k = ap (λ o. and_then o f) e ∙ k

-- ---- forms that read no token, or none at all

pub agrees-pure : {S : Type 0} {n : ℕ} {A : Type 0} (a : A) (tail : Barred) → Agrees S n (pure a) (gives a) 0 (Head.others tail ∷ []) tail
agrees-pure a tail = record {
  sound = λ s ts b us e. (same_value a b ts us e, same_rest a b ts us e);
  complete = λ ts b us _ spelt _. same_read a b ts us spelt.0 spelt.1;
  starts = λ ts b us spelt c. clear-begins tail ts (subst (λ vs. clear tail vs ≡ true) spelt.1 c);
  takes = λ ts b us spelt. let same = ap length spelt.1 in omega (arith, same);
}

pub agrees-refuse : {S : Type 0} {n : ℕ} {A : Type 0} (k : ℕ) (heads : List Head) (tail : Barred) → Agrees S n (refuse {A = A}) nowhere k heads tail
agrees-refuse k heads tail = record {
  sound = λ s ts b us e. cc;
  complete = λ ts b us _ spelt _. absurd spelt;
  starts = λ ts b us spelt c. absurd spelt;
  takes = λ ts b us spelt. absurd spelt;
}

-- ---- one behind another

pub agrees-bind : {S : Type 0} {n : ℕ} {A B : Type 0} {p : Parser A} {f : A → Parser B} {P : Line A} {F : A → Line B} {k m : ℕ} {heads inner : List Head} {stop tail : Barred}
    → Agrees S n p P k heads stop → ((a : A) → Agrees S n (f a) (F a) m inner tail) → all_avoid stop inner ≡ true
    → Agrees S n (p >>= f) (lines.◌>>=◌ P F) (k + m) heads tail
agrees-bind {p = p} {f = f} {k = k} {m = m} {inner = inner} {stop = stop} first rest apart = record {
  sound = λ s ts b us e.
      let parts = bind_some (p ts) f b us e in
      (parts.a, parts.middle, first.sound s ts parts.a parts.middle parts.begun, (rest parts.a).sound s parts.middle b us parts.ended);
  complete = λ ts b us within spelt c.
      let front = spelt.2 in
      let back = spelt.3 in
      let shorter = first.takes ts spelt.0 spelt.1 front in
      let free = begins-clear stop inner spelt.1 apart ((rest spelt.0).starts spelt.1 b us back c) in
      read_then f spelt.0 spelt.1 (first.complete ts spelt.0 spelt.1 within front free) ((rest spelt.0).complete spelt.1 b us (omega arith) back c);
  starts = λ ts b us spelt c.
      let back = spelt.3 in
      first.starts ts spelt.0 spelt.1 spelt.2 (begins-clear stop inner spelt.1 apart ((rest spelt.0).starts spelt.1 b us back c));
  takes = λ ts b us spelt.
      let front = first.takes ts spelt.0 spelt.1 spelt.2 in
      let back = (rest spelt.0).takes spelt.1 b us spelt.3 in
      omega (arith, front, back);
}

-- ---- a line with the same meaning, and weaker words of it

pub agrees-same : {S : Type 0} {n : ℕ} {A : Type 0} {p : Parser A} {P Q : Line A} {k : ℕ} {heads : List Head} {tail : Barred}
    → ((ts : Tokens) (a : A) (us : Tokens) → P ts a us → Q ts a us) → ((ts : Tokens) (a : A) (us : Tokens) → Q ts a us → P ts a us)
    → Agrees S n p P k heads tail → Agrees S n p Q k heads tail
agrees-same there back all = record {
  sound = λ s ts a us e. there ts a us (all.sound s ts a us e);
  complete = λ ts a us within spelt. all.complete ts a us within (back ts a us spelt);
  starts = λ ts a us spelt. all.starts ts a us (back ts a us spelt);
  takes = λ ts a us spelt. all.takes ts a us (back ts a us spelt);
}

-- more tokens may be barred behind it
pub agrees-wider : {S : Type 0} {n : ℕ} {A : Type 0} {p : Parser A} {P : Line A} {k : ℕ} {heads : List Head} {tail : Barred} (wide : Barred)
    → all_avoid tail (Head.others wide ∷ []) ≡ true → Agrees S n p P k heads tail → Agrees S n p P k heads wide
agrees-wider {tail = tail} wide more all = record {
  sound = all.sound;
  complete = λ ts a us within spelt c. all.complete ts a us within spelt (begins-clear tail (Head.others wide ∷ []) us more (clear-begins wide us c));
  starts = λ ts a us spelt c. all.starts ts a us spelt (begins-clear tail (Head.others wide ∷ []) us more (clear-begins wide us c));
  takes = all.takes;
}

pub agrees-fewer : {S : Type 0} {n : ℕ} {A : Type 0} {p : Parser A} {P : Line A} {k : ℕ} {heads : List Head} {tail : Barred} (least : ℕ)
    → least ≤ k → Agrees S n p P k heads tail → Agrees S n p P least heads tail
agrees-fewer least within all = record {
  sound = all.sound;
  complete = all.complete;
  starts = all.starts;
  takes = λ ts a us spelt. let more = all.takes ts a us spelt in omega (arith, more, within);
}

-- ---- single tokens

-- the same tokens before it, the same token, the same tokens behind it
pub beginning : {t : Token} {ts vs us : Tokens} → ts ≡ vs → TakesToken t ts us → TakesToken t vs us
beginning {t = t} {us = us} same front = subst (λ xs. TakesToken t xs us) same front

pub taking : {t r : Token} {ts us : Tokens} → TakesToken t ts us → t ≡ r → TakesToken r ts us
taking {ts = ts} {us = us} front same = subst (λ x. TakesToken x ts us) same front

pub ending : {t : Token} {ts us vs : Tokens} → TakesToken t ts us → us ≡ vs → TakesToken t ts vs
ending {t = t} {ts = ts} front same = subst (λ xs. TakesToken t ts xs) same front

-- one token behind another
pub two-tokens : {t r : Token} {ts middle us : Tokens} → TakesToken t ts middle → TakesToken r middle us → ts ≡ t ∷ r ∷ us
two-tokens {t = t} first second = first.tokens ∙ ap (λ vs. t ∷ vs) second.tokens

same_token_word : (w v : Text) → bytes_eq v w ≡ true → token.Word v ≡ token.Word w
same_token_word w v e = ap token.Word ((bytes_eq-Decides v w).0 e)

-- the next token is the word, and no other
pub word-seen : (w : Text) (ts : Tokens) → sees_word w ts ≡ true → TakesToken (token.Word w) ts (drop 1 ts)
unfolding sees_word
word-seen w (token.Word v ∷ ts) e = record { tokens = ap (λ t. t ∷ ts) (same_token_word w v e) }
word-seen w (token.Quoted v ∷ ts) e = cc
word-seen w (token.Sign v ∷ ts) e = cc
word-seen w (token.Number v ∷ ts) e = cc
word-seen w (token.Text v ∷ ts) e = cc
word-seen w (token.Param v ∷ ts) e = cc
word-seen w (token.Backslash v ∷ ts) e = cc
word-seen w [] e = cc

pub sees-word : (w : Text) (ts : Tokens) → sees_word w (token.Word w ∷ ts) ≡ true
unfolding sees_word
sees-word w ts = (bytes_eq-Decides w w).1 refl

pub sees-no-word : (w : Text) (ts : Tokens) → clear (bar_word w) ts ≡ true → sees_word w ts ≡ false
unfolding sees_word
sees-no-word w (token.Word v ∷ ts) c = first-of (bytes_eq v w) c
  where
    first-of : (b : Bool) → not ((b || false) || false) ≡ true → b ≡ false
    first-of true e = cc
    first-of false e = refl
sees-no-word w (token.Quoted v ∷ ts) c = refl
sees-no-word w (token.Sign v ∷ ts) c = refl
sees-no-word w (token.Number v ∷ ts) c = refl
sees-no-word w (token.Text v ∷ ts) c = refl
sees-no-word w (token.Param v ∷ ts) c = refl
sees-no-word w (token.Backslash v ∷ ts) c = refl
sees-no-word w [] c = refl

pub sign-seen : (s : Sign) (ts : Tokens) → sees_sign s ts ≡ true → TakesToken (token.Sign s) ts (drop 1 ts)
unfolding sees_sign
sign-seen s (token.Sign r ∷ ts) e = record { tokens = ap (λ x. token.Sign x ∷ ts) (same_true the_type tt r s e) }
sign-seen s (token.Word v ∷ ts) e = cc
sign-seen s (token.Quoted v ∷ ts) e = cc
sign-seen s (token.Number v ∷ ts) e = cc
sign-seen s (token.Text v ∷ ts) e = cc
sign-seen s (token.Param v ∷ ts) e = cc
sign-seen s (token.Backslash v ∷ ts) e = cc
sign-seen s [] e = cc

pub sees-sign : (s : Sign) (ts : Tokens) → sees_sign s (token.Sign s ∷ ts) ≡ true
unfolding sees_sign
sees-sign s ts = true_same the_type s s refl

pub sees-no-sign : (s : Sign) (ts : Tokens) → clear (bar_sign s) ts ≡ true → sees_sign s ts ≡ false
unfolding sees_sign
sees-no-sign s (token.Sign r ∷ ts) c = first-of (same_sign r s) c
  where
    first-of : (b : Bool) → not (b || false) ≡ true → b ≡ false
    first-of true e = cc
    first-of false e = refl
sees-no-sign s (token.Word v ∷ ts) c = refl
sees-no-sign s (token.Quoted v ∷ ts) c = refl
sees-no-sign s (token.Number v ∷ ts) c = refl
sees-no-sign s (token.Text v ∷ ts) c = refl
sees-no-sign s (token.Param v ∷ ts) c = refl
sees-no-sign s (token.Backslash v ∷ ts) c = refl
sees-no-sign s [] c = refl

-- what a test reads, and what reads on by it
abbrev pub eaten : (Tokens → Bool) → Parser Bool
eaten sees = λ ts. Some (sees ts, behind (sees ts) ts)

-- A test of the next token, and the line that spells it.
pub record Tests (sees : Tokens → Bool) (L : Line (Unit {0})) (head : Head) (bar : Barred) : Type 0 where
  pub seen : (ts : Tokens) → sees ts ≡ true → L ts tt (drop 1 ts)
  pub known : (ts : Tokens) (u : Unit {0}) (us : Tokens) → L ts u us → (sees ts ≡ true) × (us ≡ drop 1 ts) × (1 + length us ≤ length ts) × (begins (head ∷ []) ts ≡ true)
  pub none : (ts : Tokens) → clear bar ts ≡ true → sees ts ≡ false

begins-one : (head : Head) (t : Token) (ts : Tokens) → is head t ≡ true → begins (head ∷ []) (t ∷ ts) ≡ true
begins-one head t ts e = ap (λ b. b || false) e

pub tests-word : (w : Text) → Tests (sees_word w) (a_word w) (Head.word w) (bar_word w)
tests-word w = record {
  seen = λ ts e. word-seen w ts e;
  known = λ ts u us spelt. (
    ap (sees_word w) spelt.tokens ∙ sees-word w us,
    sym (ap (drop 1) spelt.tokens),
    (let same = ap length spelt.tokens in omega (arith, same)),
    subst (λ vs. begins (Head.word w ∷ []) vs ≡ true) (sym spelt.tokens) (begins-one (Head.word w) (token.Word w) us ((bytes_eq-Decides w w).1 refl)),
  );
  none = λ ts c. sees-no-word w ts c;
}

pub tests-sign : (s : Sign) → Tests (sees_sign s) (mark s) (Head.sign s) (bar_sign s)
tests-sign s = record {
  seen = λ ts e. sign-seen s ts e;
  known = λ ts u us spelt. (
    ap (sees_sign s) spelt.tokens ∙ sees-sign s us,
    sym (ap (drop 1) spelt.tokens),
    (let same = ap length spelt.tokens in omega (arith, same)),
    subst (λ vs. begins (Head.sign s ∷ []) vs ≡ true) (sym spelt.tokens) (begins-one (Head.sign s) (token.Sign s) us (true_same the_type s s refl)),
  );
  none = λ ts c. sees-no-sign s ts c;
}

-- ---- choices by the next token

pub min-left : (a b : ℕ) → min a b ≤ a
min-left a b = grind (arith, common_steps)

pub min-right : (a b : ℕ) → min a b ≤ b
min-right a b = grind (arith, common_steps)

-- Where the token comes next it is read, and what the one line spells comes behind it; else the other line is spelt.
pub agrees-test : {S : Type 0} {n most : ℕ} {B : Type 0} {sees : Tokens → Bool} {L : Line (Unit {0})} {head : Head} {bar : Barred} {P Q : Line B} {k m : ℕ} {ahead heads : List Head} {tail : Barred} (f : Bool → Parser B)
    → most ≤ suc n → Tests sees L head bar → Agrees S n (f true) P k ahead tail → Agrees S most (f false) Q m heads tail → all_avoid bar heads ≡ true
    → Agrees S most (eaten sees >>= f) (lines.◌or◌ (lines.◌>>◌ L P) Q) (min (suc k) m) (head ∷ heads) tail
agrees-test {S = S} {B = B} {sees = sees} {L = L} {head = head} {bar = bar} {P = P} {Q = Q} {k = k} {m = m} {heads = heads} f room test found_so not_so apart = record {
  sound = λ s ts b us e. sound-by s ts b us (sees ts) refl e;
  complete = λ ts b us within spelt c. ⊎_elim
      (λ left.
      let here = test.known ts left.0 left.1 left.2 in
      let shorter = here.2 in
      ap (λ x. f x (behind x ts)) here.0 ∙ (ap (f true) (sym here.1) ∙ found_so.complete left.1 b us (omega arith) left.3 c))
      (λ right.
      let unseen = test.none ts (begins-clear bar heads ts apart (not_so.starts ts b us right c)) in
      ap (λ x. f x (behind x ts)) unseen ∙ not_so.complete ts b us within right c)
      spelt;
  starts = λ ts b us spelt c. ⊎_elim
      (λ left. begins-left (head ∷ []) heads ts (test.known ts left.0 left.1 left.2).3)
      (λ right. begins-right (head ∷ []) heads ts (not_so.starts ts b us right c))
      spelt;
  takes = λ ts b us spelt. ⊎_elim
      (λ left.
      let here = (test.known ts left.0 left.1 left.2).2 in
      let more = found_so.takes left.1 b us left.3 in
      let least = min-left (suc k) m in omega arith)
      (λ right. let more = not_so.takes ts b us right in let least = min-right (suc k) m in omega arith)
      spelt;
}
  where
    sound-by : S → (ts : Tokens) (b : B) (us : Tokens) (found : Bool) → sees ts ≡ found → f (sees ts) (behind (sees ts) ts) ≡ Some (b, us) → (lines.◌or◌ (lines.◌>>◌ L P) Q) ts b us
    sound-by s ts b us true q e = inl (tt, drop 1 ts, test.seen ts q, found_so.sound s (drop 1 ts) b us (subst (λ x. f x (behind x ts) ≡ Some (b, us)) q e))
    sound-by s ts b us false q e = inr (not_so.sound s ts b us (subst (λ x. f x (behind x ts) ≡ Some (b, us)) q e))

-- the same of a word and of a sign
pub agrees-word : {S : Type 0} {n : ℕ} {B : Type 0} {p q : Parser B} {P Q : Line B} {k m : ℕ} {ahead heads : List Head} {tail : Barred} (w : Text)
    → Agrees S n p P k ahead tail → Agrees S n q Q m heads tail → all_avoid (bar_word w) heads ≡ true
    → Agrees S n (eat_word w >>= (λ found. cond found p q)) (lines.◌or◌ (lines.◌>>◌ (a_word w) P) Q) (min (suc k) m) (Head.word w ∷ heads) tail
agrees-word {p = p} {q = q} w found_so not_so apart = agrees-test (λ found. cond found p q) (omega arith) (tests-word w) found_so not_so apart

pub agrees-sign : {S : Type 0} {n : ℕ} {B : Type 0} {p q : Parser B} {P Q : Line B} {k m : ℕ} {ahead heads : List Head} {tail : Barred} (s : Sign)
    → Agrees S n p P k ahead tail → Agrees S n q Q m heads tail → all_avoid (bar_sign s) heads ≡ true
    → Agrees S n (eat_sign s >>= (λ found. cond found p q)) (lines.◌or◌ (lines.◌>>◌ (mark s) P) Q) (min (suc k) m) (Head.sign s ∷ heads) tail
agrees-sign {p = p} {q = q} s found_so not_so apart = agrees-test (λ found. cond found p q) (omega arith) (tests-sign s) found_so not_so apart

-- the same where what stands behind the token may be a token shorter
pub agrees-word-deeper : {S : Type 0} {n : ℕ} {B : Type 0} {p q : Parser B} {P Q : Line B} {k m : ℕ} {ahead heads : List Head} {tail : Barred} (w : Text)
    → Agrees S n p P k ahead tail → Agrees S (suc n) q Q m heads tail → all_avoid (bar_word w) heads ≡ true
    → Agrees S (suc n) (eat_word w >>= (λ found. cond found p q)) (lines.◌or◌ (lines.◌>>◌ (a_word w) P) Q) (min (suc k) m) (Head.word w ∷ heads) tail
agrees-word-deeper {p = p} {q = q} w found_so not_so apart = agrees-test (λ found. cond found p q) (omega arith) (tests-word w) found_so not_so apart

pub agrees-sign-deeper : {S : Type 0} {n : ℕ} {B : Type 0} {p q : Parser B} {P Q : Line B} {k m : ℕ} {ahead heads : List Head} {tail : Barred} (s : Sign)
    → Agrees S n p P k ahead tail → Agrees S (suc n) q Q m heads tail → all_avoid (bar_sign s) heads ≡ true
    → Agrees S (suc n) (eat_sign s >>= (λ found. cond found p q)) (lines.◌or◌ (lines.◌>>◌ (mark s) P) Q) (min (suc k) m) (Head.sign s ∷ heads) tail
agrees-sign-deeper {p = p} {q = q} s found_so not_so apart = agrees-test (λ found. cond found p q) (omega arith) (tests-sign s) found_so not_so apart

-- a keyword or a sign that has to come next
pub agrees-expect : {S : Type 0} {n : ℕ} {sees : Tokens → Bool} {L : Line (Unit {0})} {head : Head} {bar : Barred}
    → Tests sees L head bar → Agrees S n (eaten sees >>= (λ found. cond found (pure tt) refuse)) L 1 (head ∷ []) nothing
agrees-expect {S = S} {sees = sees} {L = L} test = record {
  sound = λ s ts u us e. sound-by ts u us (sees ts) refl e;
  complete = λ ts u us within spelt c.
      let here = test.known ts u us spelt in
      ap (λ x. cond {A = Parser (Unit {0})} x (pure tt) refuse (behind x ts)) here.0 ∙ ap (λ vs. Some (tt, vs)) (sym here.1);
  starts = λ ts u us spelt c. (test.known ts u us spelt).3;
  takes = λ ts u us spelt. (test.known ts u us spelt).2;
}
  where
    sound-by : (ts : Tokens) (u : Unit {0}) (us : Tokens) (found : Bool) → sees ts ≡ found → cond {A = Parser (Unit {0})} (sees ts) (pure tt) refuse (behind (sees ts) ts) ≡ Some (u, us) → L ts u us
    sound-by ts u us true q e =
        let read = subst (λ x. cond {A = Parser (Unit {0})} x (pure tt) refuse (behind x ts) ≡ Some (u, us)) q e in
        subst (λ vs. L ts tt vs) (sym (same_rest tt u (drop 1 ts) us read)) (test.seen ts q)
    sound-by ts u us false q e =
        let read = subst (λ x. cond {A = Parser (Unit {0})} x (pure tt) refuse (behind x ts) ≡ Some (u, us)) q e in cc

pub agrees-expect_word : {S : Type 0} {n : ℕ} (w : Text) → Agrees S n (expect_word w) (a_word w) 1 (Head.word w ∷ []) nothing
agrees-expect_word w = agrees-expect (tests-word w)

pub agrees-expect_sign : {S : Type 0} {n : ℕ} (s : Sign) → Agrees S n (expect_sign s) (mark s) 1 (Head.sign s ∷ []) nothing
agrees-expect_sign s = agrees-expect (tests-sign s)

-- what stands behind a first line that reads a token may be a token shorter
pub agrees-behind : {S : Type 0} {n : ℕ} {A B : Type 0} {p : Parser A} {f : A → Parser B} {P : Line A} {F : A → Line B} {k m : ℕ} {heads inner : List Head} {stop tail : Barred}
    → Agrees S (suc n) p P (suc k) heads stop → ((a : A) → Agrees S n (f a) (F a) m inner tail) → all_avoid stop inner ≡ true
    → Agrees S (suc n) (p >>= f) (lines.◌>>=◌ P F) (suc k + m) heads tail
agrees-behind {p = p} {f = f} {k = k} {m = m} {inner = inner} {stop = stop} first rest apart = record {
  sound = λ s ts b us e.
      let parts = bind_some (p ts) f b us e in
      (parts.a, parts.middle, first.sound s ts parts.a parts.middle parts.begun, (rest parts.a).sound s parts.middle b us parts.ended);
  complete = λ ts b us within spelt c.
      let front = spelt.2 in
      let back = spelt.3 in
      let shorter = first.takes ts spelt.0 spelt.1 front in
      let free = begins-clear stop inner spelt.1 apart ((rest spelt.0).starts spelt.1 b us back c) in
      read_then f spelt.0 spelt.1 (first.complete ts spelt.0 spelt.1 within front free) ((rest spelt.0).complete spelt.1 b us (omega arith) back c);
  starts = λ ts b us spelt c.
      let back = spelt.3 in
      first.starts ts spelt.0 spelt.1 spelt.2 (begins-clear stop inner spelt.1 apart ((rest spelt.0).starts spelt.1 b us back c));
  takes = λ ts b us spelt.
      let front = first.takes ts spelt.0 spelt.1 spelt.2 in
      let back = (rest spelt.0).takes spelt.1 b us spelt.3 in
      omega (arith, front, back);
}

-- ---- a token that stands for a value

abbrev pub one : {A : Type 0} → (Token → Option A) → Line A
one value_of ts a us = (t : Token) × TakesToken t ts us × (value_of t ≡ Some a)

abbrev pub stands_for : {A : Type 0} → (Token → Option A) → Tokens → Bool
stands_for value_of [] = false
stands_for value_of (t ∷ ts) = is_some (value_of t)

-- which tokens do, and the line that spells them
pub record Stands {A : Type 0} (value_of : Token → Option A) (T : Line A) (heads : List Head) (bar : Barred) : Type 0 where
  pub shows : (t : Token) (a : A) → value_of t ≡ Some a → list_any (λ head. is head t) heads ≡ true
  pub none : (t : Token) → bars bar t ≡ false → value_of t ≡ None
  pub there : (ts : Tokens) (a : A) (us : Tokens) → one value_of ts a us → T ts a us
  pub back : (ts : Tokens) (a : A) (us : Tokens) → T ts a us → one value_of ts a us

pub taken-some : {A : Type 0} (value_of : Token → Option A) (t : Token) (ts : Tokens) (a : A) → value_of t ≡ Some a → taken value_of (t ∷ ts) ≡ Some (Some a, ts)
unfolding taken
taken-some value_of t ts a e = ap (λ o. taken_first o t ts) e

pub taken-one : {A : Type 0} (value_of : Token → Option A) (ts : Tokens) (a : A) (us : Tokens) → one value_of ts a us → taken value_of ts ≡ Some (Some a, us)
taken-one value_of ts a us (t, e, v) = ap (taken value_of) e.tokens ∙ taken-some value_of t us a v

pub taken-nothing : {A : Type 0} (value_of : Token → Option A) (ts : Tokens) → stands_for value_of ts ≡ false → taken value_of ts ≡ Some (None, ts)
unfolding taken
taken-nothing value_of [] none = refl
taken-nothing {A = A} value_of (t ∷ ts) none = by (value_of t) none
  where
    by : (o : Option A) → is_some o ≡ false → taken_first o t ts ≡ Some (None, t ∷ ts)
    by (Some a) e = cc
    by None e = refl

-- what taking gives: the value, or nothing with all tokens still there
pub taken-cases : {A : Type 0} (value_of : Token → Option A) (ts : Tokens) (o : Option A) (us : Tokens) → taken value_of ts ≡ Some (o, us)
    → ((a : A) × (o ≡ Some a) × one value_of ts a us) ⊎ ((o ≡ None) × (us ≡ ts) × (stands_for value_of ts ≡ false))
unfolding taken
taken-cases value_of [] o us e = inr (same_value None o [] us e, same_rest None o [] us e, refl)
taken-cases {A = A} value_of (t ∷ ts) o us e = by (value_of t) refl e
  where
    by : (found : Option A) → value_of t ≡ found → taken_first (value_of t) t ts ≡ Some (o, us)
        → ((a : A) × (o ≡ Some a) × one value_of (t ∷ ts) a us) ⊎ ((o ≡ None) × (us ≡ t ∷ ts) × (is_some (value_of t) ≡ false))
    by (Some a) q e =
        let read = subst (λ f. taken_first f t ts ≡ Some (o, us)) q e in
        inl (a, same_value (Some a) o ts us read, (t, record { tokens = ap (λ vs. t ∷ vs) (sym (same_rest (Some a) o ts us read)) }, q))
    by None q e =
        let read = subst (λ f. taken_first f t ts ≡ Some (o, us)) q e in
        inr (same_value None o (t ∷ ts) us read, same_rest None o (t ∷ ts) us read, ap is_some q)

module _ {A : Type 0} {value_of : Token → Option A} {T : Line A} {first : List Head} {bar : Barred} (stands : Stands value_of T first bar) where
  pub none-barred : (ts : Tokens) → clear bar ts ≡ true → stands_for value_of ts ≡ false
  none-barred [] c = refl
  none-barred (t ∷ ts) c = ap is_some (stands.none t (not-true _ c))

  begun : (ts : Tokens) (a : A) (us : Tokens) → T ts a us → begins first ts ≡ true
  begun ts a us spelt = let here = stands.back ts a us spelt in subst (λ vs. begins first vs ≡ true) (sym here.1.tokens) (stands.shows here.0 a here.2)

  shorter-one : (ts : Tokens) (a : A) (us : Tokens) → T ts a us → 1 + length us ≤ length ts
  shorter-one ts a us spelt = let same = ap length (stands.back ts a us spelt).1.tokens in omega (arith, same)

  pub not-spelt : (ts : Tokens) → stands_for value_of ts ≡ false → (a : A) (vs : Tokens) → ¬ T ts a vs
  not-spelt ts none a vs spelt = let here = stands.back ts a vs spelt in let found = sym none ∙ (ap (stands_for value_of) here.1.tokens ∙ ap is_some here.2) in cc

  pub not-standing : (ts : Tokens) → ((a : A) (vs : Tokens) → ¬ T ts a vs) → stands_for value_of ts ≡ false
  not-standing [] none = refl
  not-standing (t ∷ ts) none = by (value_of t) refl
    where
      by : (o : Option A) → value_of t ≡ o → is_some (value_of t) ≡ false
      by (Some a) q = absurd (none a ts (stands.there (t ∷ ts) a ts (t, record { tokens = refl }, q)))
      by None q = ap is_some q

-- Such a token is read where it comes next; else the other line is spelt.
pub agrees-taken : {S : Type 0} {n most : ℕ} {A B : Type 0} {value_of : Token → Option A} {T : Line A} {first : List Head} {bar : Barred} {P : A → Line B} {Q : Line B} {k m : ℕ} {ahead heads : List Head} {tail : Barred} (h : Option A → Parser B)
    → most ≤ suc n → Stands value_of T first bar → ((a : A) → Agrees S n (h (Some a)) (P a) k ahead tail) → Agrees S most (h None) Q m heads tail → all_avoid bar heads ≡ true
    → Agrees S most (taken value_of >>= h) (lines.◌or◌ (lines.◌>>=◌ T P) Q) (min (suc k) m) (first ++ heads) tail
agrees-taken {value_of = value_of} {first = first} {bar = bar} {k = k} {m = m} {heads = heads} h room stands found_so not_so apart = record {
  sound = λ s ts b us e.
      let parts = bind_some (taken value_of ts) h b us e in
      ⊎_elim
      (λ some. inl (some.0, parts.middle, stands.there ts some.0 parts.middle some.2, (found_so some.0).sound s parts.middle b us (ap (λ o. h o parts.middle) (sym some.1) ∙ parts.ended)))
      (λ none. inr (not_so.sound s ts b us (ap (h None) (sym none.1) ∙ (ap (λ o. h o parts.middle) (sym none.0) ∙ parts.ended))))
      (taken-cases value_of ts parts.a parts.middle parts.begun);
  complete = λ ts b us within spelt c. ⊎_elim
      (λ left.
      let shorter = shorter-one stands ts left.0 left.1 left.2 in
      read_then h (Some left.0) left.1 (taken-one value_of ts left.0 left.1 (stands.back ts left.0 left.1 left.2)) ((found_so left.0).complete left.1 b us (omega arith) left.3 c))
      (λ right.
      read_then h None ts (taken-nothing value_of ts (none-barred stands ts (begins-clear bar heads ts apart (not_so.starts ts b us right c)))) (not_so.complete ts b us within right c))
      spelt;
  starts = λ ts b us spelt c. ⊎_elim
      (λ left. begins-left first heads ts (begun stands ts left.0 left.1 left.2))
      (λ right. begins-right first heads ts (not_so.starts ts b us right c))
      spelt;
  takes = λ ts b us spelt. ⊎_elim
      (λ left.
      let shorter = shorter-one stands ts left.0 left.1 left.2 in
      let more = (found_so left.0).takes left.1 b us left.3 in
      let least = min-left (suc k) m in omega arith)
      (λ right. let more = not_so.takes ts b us right in let least = min-right (suc k) m in omega arith)
      spelt;
}

-- The same where the line itself says that no such token comes next.
pub agrees-unless : {S : Type 0} {n most : ℕ} {A B : Type 0} {value_of : Token → Option A} {T : Line A} {first : List Head} {bar : Barred} {P : A → Line B} {Q : Line B} {k m : ℕ} {ahead heads : List Head} {tail : Barred} (h : Option A → Parser B)
    → most ≤ suc n → Stands value_of T first bar → ((a : A) → Agrees S n (h (Some a)) (P a) k ahead tail) → Agrees S most (h None) Q m heads tail
    → Agrees S most (taken value_of >>= h) (lines.◌or◌ (lines.◌>>=◌ T P) (lines.◌>>◌ (unless T) Q)) (min (suc k) m) (first ++ heads) tail
agrees-unless {value_of = value_of} {first = first} {Q = Q} {k = k} {m = m} {heads = heads} h room stands found_so not_so = record {
  sound = λ s ts b us e.
      let parts = bind_some (taken value_of ts) h b us e in
      ⊎_elim
      (λ some. inl (some.0, parts.middle, stands.there ts some.0 parts.middle some.2, (found_so some.0).sound s parts.middle b us (ap (λ o. h o parts.middle) (sym some.1) ∙ parts.ended)))
      (λ none. inr (tt, ts, (refl, not-spelt stands ts none.2), not_so.sound s ts b us (ap (h None) (sym none.1) ∙ (ap (λ o. h o parts.middle) (sym none.0) ∙ parts.ended))))
      (taken-cases value_of ts parts.a parts.middle parts.begun);
  complete = λ ts b us within spelt c. ⊎_elim
      (λ left.
      let shorter = shorter-one stands ts left.0 left.1 left.2 in
      read_then h (Some left.0) left.1 (taken-one value_of ts left.0 left.1 (stands.back ts left.0 left.1 left.2)) ((found_so left.0).complete left.1 b us (omega arith) left.3 c))
      (λ right.
      read_then h None ts (taken-nothing value_of ts (not-standing stands ts right.2.1)) (not_so.complete ts b us within (subst (λ vs. Q vs b us) right.2.0 right.3) c))
      spelt;
  starts = λ ts b us spelt c. ⊎_elim
      (λ left. begins-left first heads ts (begun stands ts left.0 left.1 left.2))
      (λ right. begins-right first heads ts (not_so.starts ts b us (subst (λ vs. Q vs b us) right.2.0 right.3) c))
      spelt;
  takes = λ ts b us spelt. ⊎_elim
      (λ left.
      let shorter = shorter-one stands ts left.0 left.1 left.2 in
      let more = (found_so left.0).takes left.1 b us left.3 in
      let least = min-left (suc k) m in omega arith)
      (λ right. let more = not_so.takes ts b us (subst (λ vs. Q vs b us) right.2.0 right.3) in let least = min-right (suc k) m in omega arith)
      spelt;
}

-- the token has to come next
pub agrees-one : {S : Type 0} {n : ℕ} {A : Type 0} {value_of : Token → Option A} {T : Line A} {heads : List Head} {bar : Barred}
    → Stands value_of T heads bar → Agrees S n (taken value_of >>= required) T 1 heads nothing
agrees-one {A = A} {value_of = value_of} {T = T} {heads = heads} stands = record {
  sound = λ s ts a us e.
      let parts = bind_some (taken value_of ts) required a us e in
      ⊎_elim
      (λ some.
      let read = ap (λ o. required o parts.middle) (sym some.1) ∙ parts.ended in
      let value = same_value some.0 a parts.middle us read in
      let rest = same_rest some.0 a parts.middle us read in
      stands.there ts a us (subst (λ vs. one value_of ts a vs) (sym rest) (subst (λ v. one value_of ts v parts.middle) (sym value) some.2)))
      (λ none. let read = ap (λ o. required o parts.middle) (sym none.0) ∙ parts.ended in cc)
      (taken-cases value_of ts parts.a parts.middle parts.begun);
  complete = λ ts a us within spelt c. read_then required (Some a) us (taken-one value_of ts a us (stands.back ts a us spelt)) refl;
  starts = λ ts a us spelt c. begun stands ts a us spelt;
  takes = λ ts a us spelt. shorter-one stands ts a us spelt;
}

-- a keyword that may be left out, and whether it is there
pub agrees-said : {S : Type 0} {n : ℕ} (keyword : String) → Agrees S n (eat_word (codes keyword)) (lines.said keyword) 0 (Head.word (codes keyword) ∷ Head.others (bar_word (codes keyword)) ∷ []) (bar_word (codes keyword))
agrees-said {S = S} {n = n} keyword = let w = codes keyword in
    agrees-test pure (omega arith) (tests-word w) (agrees-pure {S = S} {n = n} true (bar_word w)) (agrees-pure {S = S} {n = n} false (bar_word w)) (ap (λ b. (((b || false) && true) && true) && true) ((bytes_eq-Decides w w).1 refl))
