-- Lists: reading functions that go on while a separator or an operator comes next agree with the lines of lists.
use Rattle.std.proofs.Common.{◌≡◌, ℕ, zero, suc, ◌≤◌, Bool, true, false, cond, List, [], ◌∷◌, ◌++◌, length, drop, Some, refl, sym, ap, subst, ◌∙◌, arith}
use Rattle.std.proofs.lemmas.List.{append_assoc}
use Rattle.sql_tokens.specs.declared.token.Sign.TheVariants as sign
use Rattle.sql_expr.specs.Reading.{Tokens, Outcome, Parser, ◌>>=◌, pure, behind, eat_sign, separated_from, separated}
use Rattle.sql_expr.specs.Lines.{Line, gives, many}
use Rattle.sql_expr.specs.Lines as lines
use Rattle.sql_expr.proofs.LineWords.{list}
use Rattle.sql_expr.proofs.Heads.{Barred, Head, clear, begins, all_avoid, begins-clear, clear-begins, begins-left, begins-right}
use Rattle.sql_expr.proofs.Agreement.{Agrees, Tests, tests-sign, eaten, bind_some, bar_sign, same_value, same_rest, read_then}

begins-later : (first second : Head) (ts : Tokens) → begins (second ∷ []) ts ≡ true → begins (first ∷ second ∷ []) ts ≡ true
begins-later first second ts e = begins-right (first ∷ []) (second ∷ []) ts e

begins-sooner : (first second : Head) (ts : Tokens) → begins (first ∷ []) ts ≡ true → begins (first ∷ second ∷ []) ts ≡ true
begins-sooner first second ts e = begins-left (first ∷ []) (second ∷ []) ts e

-- ---- one or more, with a separator between two

-- what was read of a list: the first, and the others
pub record Listed {A : Type 0} (L : Line (Unit {0})) (P : Line A) (found : List A) (ts : Tokens) (all : List A) (us : Tokens) : Type 0 where
  pub first : A
  pub more : List A
  pub middle : Tokens
  pub front : P ts first middle
  pub back : many (lines.◌>>◌ L P) middle more us
  pub joined : all ≡ found ++ first ∷ more

module _ {S : Type 0} {n : ℕ} {A : Type 0} {sees : Tokens → Bool} {L : Line (Unit {0})} {head : Head} {bar : Barred} {item : Parser A} {P : Line A} {k : ℕ} {heads : List Head} {stop : Barred}
    (test : Tests sees L head bar) (each : Agrees S n item P (suc k) heads stop) where
  -- behind an item
  abbrev after_item : (turns : ℕ) (found : List A) (a : A) → Bool → Parser (List A)
  after_item turns found a more = cond more (separated_from (eaten sees) item turns (found ++ a ∷ [])) (pure (found ++ a ∷ []))

  one_turn : (turns : ℕ) (found : List A) (ts : Tokens) (a : A) (middle : Tokens) (b : Bool) → item ts ≡ Some (a, middle) → sees middle ≡ b
      → separated_from (eaten sees) item (suc turns) found ts ≡ after_item turns found a b (behind b middle)
  unfolding separated_from
  one_turn turns found ts a middle b read seen =
      read_then (λ x. eaten sees >>= (λ more. cond more (separated_from (eaten sees) item turns (found ++ x ∷ [])) (pure (found ++ x ∷ [])))) a middle read
      (ap (λ x. after_item turns found a x (behind x middle)) seen)

  -- a list that ends behind an item, and one that goes on
  ended : (found : List A) (ts : Tokens) (a : A) (middle : Tokens) (all : List A) (us : Tokens) → P ts a middle
      → ◌≡◌ {A = Outcome (List A)} (Some (found ++ a ∷ [], middle)) (Some (all, us)) → Listed L P found ts all us
  ended found ts a middle all us front read = record {
    first = a;
    more = [];
    middle = middle;
    front = front;
    back = same_rest (found ++ a ∷ []) all middle us read;
    joined = same_value (found ++ a ∷ []) all middle us read;
  }

  gone_on : (found : List A) (ts : Tokens) (a : A) (middle : Tokens) (all : List A) (us : Tokens) → P ts a middle → sees middle ≡ true
      → Listed L P (found ++ a ∷ []) (drop 1 middle) all us → Listed L P found ts all us
  gone_on found ts a middle all us front seen l = record {
    first = a;
    more = l.first ∷ l.more;
    middle = middle;
    front = front;
    back = (l.middle, (tt, drop 1 middle, test.seen middle seen, l.front), l.back);
    joined = l.joined ∙ append_assoc found (a ∷ []) (l.first ∷ l.more);
  }

  separated-sound : S → (turns : ℕ) (found : List A) (ts : Tokens) (all : List A) (us : Tokens) → separated_from (eaten sees) item turns found ts ≡ Some (all, us) → Listed L P found ts all us
  unfolding separated_from
  separated-sound s zero found ts all us read = cc
  separated-sound s (suc turns) found ts all us read =
      let parts = bind_some (item ts) (λ x. eaten sees >>= (λ more. cond more (separated_from (eaten sees) item turns (found ++ x ∷ [])) (pure (found ++ x ∷ [])))) all us read in
      let front = each.sound s ts parts.a parts.middle parts.begun in
      by parts.a parts.middle front (sees parts.middle) refl parts.ended (separated-sound s turns (found ++ parts.a ∷ []) (drop 1 parts.middle) all us)
    where
      by : (a : A) (middle : Tokens) → P ts a middle → (b : Bool) → sees middle ≡ b → after_item turns found a (sees middle) (behind (sees middle) middle) ≡ Some (all, us)
          → (separated_from (eaten sees) item turns (found ++ a ∷ []) (drop 1 middle) ≡ Some (all, us) → Listed L P (found ++ a ∷ []) (drop 1 middle) all us) → Listed L P found ts all us
      by a middle front true seen read later = gone_on found ts a middle all us front seen (later (subst (λ x. after_item turns found a x (behind x middle) ≡ Some (all, us)) seen read))
      by a middle front false seen read later = ended found ts a middle all us front (subst (λ x. after_item turns found a x (behind x middle) ≡ Some (all, us)) seen read)

  many-takes : (middle : Tokens) (more : List A) (us : Tokens) → many (lines.◌>>◌ L P) middle more us → length us ≤ length middle
  many-takes middle [] us back = let same = ap length back in omega (arith, same)
  many-takes middle (b ∷ more) us back =
      let here = (test.known middle back.1.0 back.1.1 back.1.2).2 in
      let item_takes = each.takes back.1.1 b back.0 back.1.3 in
      let rest = many-takes back.0 more us back.2 in omega (arith, here, item_takes, rest)

  same_end : {o : Outcome (List A)} {all wanted : List A} {us vs : Tokens} → o ≡ Some (wanted, vs) → all ≡ wanted → us ≡ vs → o ≡ Some (all, us)
  same_end {wanted = wanted} {us = us} read same rest = read ∙ (ap (λ ws. Some (wanted, ws)) (sym rest) ∙ ap (λ l. Some (l, us)) (sym same))

  -- The separator and what a further item begins with can't go on with an item, and what may follow the list is no separator.
  module _ (tail : Barred) (apart : all_avoid stop (head ∷ Head.others tail ∷ []) ≡ true) (ends : all_avoid bar (Head.others tail ∷ []) ≡ true) where
    -- what stands behind an item
    item-ends : (middle : Tokens) (more : List A) (us : Tokens) → many (lines.◌>>◌ L P) middle more us → clear tail us ≡ true → clear stop middle ≡ true
    item-ends middle [] us back c = begins-clear stop (head ∷ Head.others tail ∷ []) middle apart (begins-later head (Head.others tail) middle (clear-begins tail middle (subst (λ vs. clear tail vs ≡ true) back c)))
    item-ends middle (b ∷ more) us back c = begins-clear stop (head ∷ Head.others tail ∷ []) middle apart (begins-sooner head (Head.others tail) middle (test.known middle back.1.0 back.1.1 back.1.2).3)

    separated-complete : (turns : ℕ) (found : List A) (ts : Tokens) (a : A) (middle : Tokens) (more : List A) (us : Tokens) → length ts ≤ turns → length ts ≤ n
        → P ts a middle → many (lines.◌>>◌ L P) middle more us → clear tail us ≡ true → separated_from (eaten sees) item turns found ts ≡ Some (found ++ a ∷ more, us)
    separated-complete zero found ts a middle more us enough within front back c = let some = each.takes ts a middle front in absurd (omega arith)
    separated-complete (suc turns) found ts a middle [] us enough within front back c =
        let free = subst (λ vs. clear tail vs ≡ true) back c in
        let read = each.complete ts a middle within front (item-ends middle [] us back c) in
        let unseen = test.none middle (begins-clear bar (Head.others tail ∷ []) middle ends (clear-begins tail middle free)) in
        one_turn turns found ts a middle false read unseen ∙ ap (λ vs. Some (found ++ a ∷ [], vs)) (sym back)
    separated-complete (suc turns) found ts a middle (b ∷ more) us enough within front back c =
        let some = each.takes ts a middle front in
        let read = each.complete ts a middle within front (item-ends middle (b ∷ more) us back c) in
        let known = test.known middle back.1.0 back.1.1 back.1.2 in
        let shorter = known.2 in
        let here : P (drop 1 middle) b back.0 = subst (λ vs. P vs b back.0) known.1 back.1.3 in
        let count = ap length known.1 in
        one_turn turns found ts a middle true read known.0
        ∙ (separated-complete turns (found ++ a ∷ []) (drop 1 middle) b back.0 more us (omega arith) (omega arith) here back.2 c
        ∙ ap (λ l. Some (l, us)) (append_assoc found (a ∷ []) (b ∷ more)))

    pub agrees-separated_from : (found : List A) → Agrees S n (λ ts. separated_from (eaten sees) item (length ts) found ts) (lines.◌>>=◌ P (λ a. lines.◌>>=◌ (many (lines.◌>>◌ L P)) (λ more. gives (found ++ a ∷ more)))) (suc k) heads tail
    agrees-separated_from found = record {
      sound = λ s ts all us read.
          let l = separated-sound s (length ts) found ts all us read in
          (l.first, l.middle, l.front, (l.more, us, l.back, (l.joined, refl)));
      complete = λ ts all us within spelt c.
          let back = spelt.3 in
          let free = subst (λ vs. clear tail vs ≡ true) back.3.1 c in
          same_end (separated-complete (length ts) found ts spelt.0 spelt.1 back.0 back.1 (omega arith) within spelt.2 back.2 free) back.3.0 back.3.1;
      starts = λ ts all us spelt c.
          let back = spelt.3 in
          each.starts ts spelt.0 spelt.1 spelt.2 (item-ends spelt.1 back.0 back.1 back.2 (subst (λ vs. clear tail vs ≡ true) back.3.1 c));
      takes = λ ts all us spelt.
          let back = spelt.3 in
          let front = each.takes ts spelt.0 spelt.1 spelt.2 in
          let rest = many-takes spelt.1 back.0 back.1 back.2 in
          let same = ap length back.3.1 in omega (arith, front, rest);
    }

-- lists with commas, and with a word, between two
pub agrees-list : {S : Type 0} {n : ℕ} {A : Type 0} {item : Parser A} {P : Line A} {k : ℕ} {heads : List Head} {stop : Barred} (tail : Barred)
    → Agrees S n item P (suc k) heads stop → all_avoid stop (Head.sign sign.Comma ∷ Head.others tail ∷ []) ≡ true → all_avoid (bar_sign sign.Comma) (Head.others tail ∷ []) ≡ true
    → Agrees S n (separated (eat_sign sign.Comma) item) (list P) (suc k) heads tail
agrees-list tail each apart ends = agrees-separated_from (tests-sign sign.Comma) each tail apart ends []
