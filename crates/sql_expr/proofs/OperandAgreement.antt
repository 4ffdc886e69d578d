-- Operands with one operator between two: lists under AND and OR, and arithmetic that groups to the left.
use Rattle.std.proofs.Common.{◌≡◌, inl, inr, ⊎_elim, ℕ, zero, suc, ◌≤◌, true, cond, List, [], ◌∷◌, ◌++◌, length, Option, Some, None, refl, sym, ap, subst, ◌∙◌, arith}
use Rattle.sql_tokens.specs.declared.token.Token.{Token}
use Rattle.sql_tree.specs.declared.expr.Arithmetic.{Arithmetic}
use Rattle.sql_tree.specs.declared.expr.Expr.{Expr}
use Rattle.sql_tree.specs.declared.expr.Expr.TheVariants as e
use Rattle.sql_expr.specs.Reading.{Text, Tokens, Parser, ◌>>=◌, pure, taken, eat_word, separated_from, goes_on}
use Rattle.sql_expr.specs.Expressions.{grouped_from}
use Rattle.sql_expr.specs.Lines.{Line, gives, many, word as a_word}
use Rattle.sql_expr.specs.Lines as lines
use Rattle.sql_expr.specs.Grammar.{operation}
use Rattle.sql_expr.proofs.LineWords as words
use Rattle.sql_expr.proofs.ExpressionLines.{grouped, applied, chain}
use Rattle.sql_expr.proofs.Heads.{Barred, Head, clear, begins, all_avoid, begins-clear, clear-begins, begins-left, begins-right}
use Rattle.sql_expr.proofs.Agreement.{Agrees, Stands, tests-word, bar_word, bind_some, same_value, same_rest, same_read, read_then, taken-cases, taken-some, taken-nothing, none-barred, agrees-pure, agrees-bind, agrees-word, agrees-same, agrees-fewer}
use Rattle.sql_expr.proofs.ListAgreement.{agrees-separated_from}

-- ---- operands with a word between two

module _ (f : List Expr → Expr) (word : Text) (P : Line Expr) where
  -- the first operand is read before it is known whether more come
  abbrev pub in_order : Line Expr
  in_order = lines.◌>>=◌ P (λ first. lines.◌or◌
      (lines.◌>>◌ (a_word word) (lines.◌>>=◌ (lines.◌>>=◌ P (λ a. lines.◌>>=◌ (many (lines.◌>>◌ (a_word word) P)) (λ more. gives ((first ∷ []) ++ a ∷ more)))) (λ all. gives (f all))))
      (gives first))

  there : (ts : Tokens) (x : Expr) (us : Tokens) → in_order ts x us → (lines.◌<$>◌ (operation f) (words.separated (a_word word) P)) ts x us
  there ts x us (first, middle, front, inl (u, behind, keyed, (all, ended, (a, second, next, (more, last, back, (same, here))), (value, end)))) =
      (first ∷ a ∷ more, last, (first, middle, front, (a ∷ more, last, (second, (tt, behind, keyed, next), back), (refl, refl))), (value ∙ ap f same, end ∙ here))
  there ts x us (first, middle, front, inr (value, end)) =
      (first ∷ [], middle, (first, middle, front, ([], middle, refl, (refl, refl))), (value, end))

  back_of : (ts : Tokens) (x : Expr) (us : Tokens) → (lines.◌<$>◌ (operation f) (words.separated (a_word word) P)) ts x us → in_order ts x us
  back_of ts x us (l, last, (first, middle, front, ([], second, none, (same, here))), (value, end)) =
      (first, middle, front, inr (value ∙ ap (operation f) same, end ∙ (here ∙ none)))
  back_of ts x us (l, last, (first, middle, front, (a ∷ more, second, (third, (u, behind, keyed, next), back), (same, here))), (value, end)) =
      (first, middle, front, inl (tt, behind, keyed, (first ∷ a ∷ more, second, (a, third, next, (more, second, back, (refl, refl))), (value ∙ ap (operation f) same, end ∙ here))))

  pub agrees-operands : {S : Type 0} {n : ℕ} {p : Parser Expr} {k : ℕ} {heads : List Head} {stop : Barred} (tail : Barred)
      → Agrees S n p P (suc k) heads stop → all_avoid stop (Head.word word ∷ Head.others tail ∷ []) ≡ true → all_avoid (bar_word word) (Head.others tail ∷ []) ≡ true → all_avoid tail (Head.others tail ∷ []) ≡ true
      → Agrees S n (p >>= (λ first. eat_word word >>= (λ more. cond more ((λ ts. separated_from (eat_word word) p (length ts) (first ∷ []) ts) >>= (λ all. pure (f all))) (pure first))))
      (lines.◌<$>◌ (operation f) (words.separated (a_word word) P)) (suc k) heads tail
  agrees-operands {k = k} tail each apart ends same = agrees-same there back_of (agrees-fewer (suc k) (omega arith)
      (agrees-bind each (λ first. agrees-word word
      (agrees-bind (agrees-separated_from (tests-word word) each tail apart ends (first ∷ [])) (λ all. agrees-pure (f all) tail) same)
      (agrees-pure first tail) ends) apart))

-- ---- arithmetic

-- what was read behind a left operand
pub record Grouped (further : Line (Arithmetic × Expr)) (left : Expr) (ts : Tokens) (x : Expr) (us : Tokens) : Type 0 where
  pub others : List (Arithmetic × Expr)
  pub back : many further ts others us
  pub value : x ≡ grouped left others

module _ {S : Type 0} {n : ℕ} {operator_of : Token → Option Arithmetic} {T : Line Arithmetic} {first : List Head} {bar : Barred} {p : Parser Expr} {P : Line Expr} {k : ℕ} {heads : List Head} {stop : Barred}
    (stands : Stands operator_of T first bar) (each : Agrees S n p P (suc k) heads stop) where
  grouped-sound : S → (turns : ℕ) (left : Expr) (ts : Tokens) (x : Expr) (us : Tokens) → grouped_from (taken operator_of) p turns left ts ≡ Some (x, us) → Grouped (applied T P) left ts x us
  unfolding grouped_from
  grouped-sound s zero left ts x us read = record { others = []; back = same_rest left x ts us read; value = same_value left x ts us read }
  grouped-sound s (suc turns) left ts x us read =
      let parts = bind_some (taken operator_of ts) (λ found. goes_on found (λ op. p >>= (λ right. grouped_from (taken operator_of) p turns (e.Arithmetic op left right))) left) x us read in
      ⊎_elim
      (λ some.
      let on = ap (λ o. goes_on o (λ op. p >>= (λ right. grouped_from (taken operator_of) p turns (e.Arithmetic op left right))) left parts.middle) (sym some.1) ∙ parts.ended in
      let operand = bind_some (p parts.middle) (λ right. grouped_from (taken operator_of) p turns (e.Arithmetic some.0 left right)) x us on in
      let rest = grouped-sound s turns (e.Arithmetic some.0 left operand.a) operand.middle x us operand.ended in
      let front = each.sound s parts.middle operand.a operand.middle operand.begun in
      record {
        others = (some.0, operand.a) ∷ rest.others;
        back = (operand.middle, (some.0, parts.middle, stands.there ts some.0 parts.middle some.2, (operand.a, operand.middle, front, (refl {a = (some.0, operand.a)}, refl {a = operand.middle}))), rest.back);
        value = rest.value;
      })
      (λ none.
      let end = ap (λ o. goes_on o (λ op. p >>= (λ right. grouped_from (taken operator_of) p turns (e.Arithmetic op left right))) left parts.middle) (sym none.0) ∙ parts.ended in
      record { others = []; back = same_rest left x parts.middle us end ∙ none.1; value = same_value left x parts.middle us end })
      (taken-cases operator_of ts parts.a parts.middle parts.begun)

  module _ (tail : Barred) (apart : all_avoid stop (first ++ Head.others tail ∷ []) ≡ true) (ends : all_avoid bar (Head.others tail ∷ []) ≡ true) where
    begins-applied : (ts : Tokens) (others : List (Arithmetic × Expr)) (us : Tokens) → many (applied T P) ts others us → clear tail us ≡ true → begins (first ++ Head.others tail ∷ []) ts ≡ true
    begins-applied ts [] us back c = begins-right first (Head.others tail ∷ []) ts (clear-begins tail ts (subst (λ vs. clear tail vs ≡ true) back c))
    begins-applied ts (next ∷ more) us back c =
        let op = stands.back ts back.1.0 back.1.1 back.1.2 in
        begins-left first (Head.others tail ∷ []) ts (subst (λ vs. begins first vs ≡ true) (sym op.1.tokens) (stands.shows op.0 back.1.0 op.2))

    takes-applied : (ts : Tokens) (others : List (Arithmetic × Expr)) (us : Tokens) → many (applied T P) ts others us → length us ≤ length ts
    takes-applied ts [] us back = let same = ap length back in omega (arith, same)
    takes-applied ts (next ∷ more) us back =
        let op = stands.back ts back.1.0 back.1.1 back.1.2 in
        let operand = back.1.3 in
        let one_less = ap length op.1.tokens in
        let less = each.takes back.1.1 operand.0 operand.1 operand.2 in
        let same = ap length operand.3.1 in
        let rest = takes-applied back.0 more us back.2 in omega (arith, one_less, less, same, rest)

    grouped-complete : (turns : ℕ) (left : Expr) (ts : Tokens) (others : List (Arithmetic × Expr)) (us : Tokens) → length ts ≤ turns → length ts ≤ n
        → many (applied T P) ts others us → clear tail us ≡ true → grouped_from (taken operator_of) p turns left ts ≡ Some (grouped left others, us)
    unfolding grouped_from
    grouped-complete zero left ts [] us enough within back c = ap (λ vs. Some (left, vs)) (sym back)
    grouped-complete zero left ts (next ∷ more) us enough within back c =
        let one_less = ap length (stands.back ts back.1.0 back.1.1 back.1.2).1.tokens in absurd (omega arith)
    grouped-complete (suc turns) left ts [] us enough within back c =
        let free = begins-clear bar (Head.others tail ∷ []) ts ends (clear-begins tail ts (subst (λ vs. clear tail vs ≡ true) back c)) in
        read_then (λ found. goes_on found (λ op. p >>= (λ right. grouped_from (taken operator_of) p turns (e.Arithmetic op left right))) left) None ts (taken-nothing operator_of ts (none-barred stands ts free))
        (ap (λ vs. Some (left, vs)) (sym back))
    grouped-complete (suc turns) left ts (next ∷ more) us enough within back c =
        let op = stands.back ts back.1.0 back.1.1 back.1.2 in
        let operand = back.1.3 in
        let one_less = ap length op.1.tokens in
        let less = each.takes back.1.1 operand.0 operand.1 operand.2 in
        let same = ap length operand.3.1 in
        let here : many (applied T P) operand.1 more us = subst (λ vs. many (applied T P) vs more us) operand.3.1 back.2 in
        let free = begins-clear stop (first ++ Head.others tail ∷ []) operand.1 apart (begins-applied operand.1 more us here c) in
        let read = each.complete back.1.1 operand.0 operand.1 (omega arith) operand.2 free in
        read_then (λ found. goes_on found (λ o. p >>= (λ right. grouped_from (taken operator_of) p turns (e.Arithmetic o left right))) left) (Some back.1.0) back.1.1
        (ap (taken operator_of) op.1.tokens ∙ taken-some operator_of op.0 back.1.1 back.1.0 op.2)
        (read_then (λ right. grouped_from (taken operator_of) p turns (e.Arithmetic back.1.0 left right)) operand.0 operand.1 read
        (grouped-complete turns (e.Arithmetic back.1.0 left operand.0) operand.1 more us (omega arith) (omega arith) here c
        ∙ ap (λ o. Some (grouped (e.Arithmetic o.0 left o.1) more, us)) (sym operand.3.0)))

    agrees-grouped : (left : Expr) → Agrees S n (λ ts. grouped_from (taken operator_of) p (length ts) left ts) (lines.◌>>=◌ (many (applied T P)) (λ others. gives (grouped left others))) 0 (first ++ Head.others tail ∷ []) tail
    agrees-grouped left = record {
      sound = λ s ts x us read. let g = grouped-sound s (length ts) left ts x us read in (g.others, us, g.back, (g.value, refl));
      complete = λ ts x us within spelt c.
          let free = subst (λ vs. clear tail vs ≡ true) spelt.3.1 c in
          grouped-complete (length ts) left ts spelt.0 spelt.1 (omega arith) within spelt.2 free ∙ same_read (grouped left spelt.0) x spelt.1 us spelt.3.0 spelt.3.1;
      starts = λ ts x us spelt c. begins-applied ts spelt.0 spelt.1 spelt.2 (subst (λ vs. clear tail vs ≡ true) spelt.3.1 c);
      takes = λ ts x us spelt. let rest = takes-applied ts spelt.0 spelt.1 spelt.2 in let same = ap length spelt.3.1 in omega (arith, rest);
    }

    pub agrees-chain : Agrees S n (p >>= (λ left. λ ts. grouped_from (taken operator_of) p (length ts) left ts)) (chain T P) (suc k) heads tail
    agrees-chain = agrees-fewer (suc k) (omega arith) (agrees-bind each (λ left. agrees-grouped left) apart)
