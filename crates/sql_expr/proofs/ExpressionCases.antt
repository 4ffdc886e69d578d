-- The cases of the grammar of expressions and the lines that are read: what a case spells its line spells, and what a line spells
-- is spelt by a case.
use Rattle.std.proofs.Common.{◌≡◌, inl, inr, ℕ, zero, suc, ◌+◌, ◌≤◌, Bool, true, false, List, [], ◌∷◌, ◌++◌, length, Some, None, refl, sym, ap, subst, ◌∙◌, arith}
use Rattle.sql_tokens.specs.declared.token.Token.{Token}
use Rattle.sql_tokens.specs.declared.token.Sign.TheVariants as sign
use Rattle.sql_tree.specs.declared.names.ColumnRef.{ColumnRef}
use Rattle.sql_tree.specs.declared.expr.{Arithmetic.Arithmetic, Expr.Expr}
use Rattle.sql_tree.specs.declared.expr.Expr.TheVariants as e
use Prim.Native.String.{String}
use Rattle.sql_expr.specs.declared.grammar.Level.{Level, TheVariants.Whole, TheVariants.Negated, TheVariants.Signed}
use Rattle.sql_expr.specs.Lines.{Text, Tokens, TakesToken, Line, key, mark, name, said, many}
use Rattle.sql_expr.specs.Grammar.{literal, qualified, column, additive, multiplicative, Rule, Meaning, Spells, expression}
use Rattle.sql_expr.proofs.LineWords.{separated, list, last-separated, next-separated, list-of}
use Rattle.sql_expr.proofs.Agreement.{one, beginning, ending}
use Rattle.sql_expr.proofs.TokenKinds.{stands-name, stands-comparison, stands-additive, stands-multiplicative, literal-back}
use Rattle.sql_expr.proofs.ExpressionLines.{grouped, applied, chain, within}
use Rattle.sql_expr.proofs.ExpressionLines as expr

-- ---- what is spelt takes a token

token-takes : {t : Token} {ts us : Tokens} → TakesToken t ts us → length ts ≡ 1 + length us
token-takes taken = let same = ap length taken.tokens in omega (arith, same)

one-takes : {A : Type 0} {value_of : Token → _} {ts us : Tokens} {a : A} → one value_of ts a us → length ts ≡ 1 + length us
one-takes (t, taken, v) = token-takes taken

pub name-takes : {ts us : Tokens} {n : Text} → name ts n us → length ts ≡ 1 + length us
name-takes spelt = one-takes (stands-name.back _ _ _ spelt)

said-takes : (w : String) {ts us : Tokens} {b : Bool} → said w ts b us → length us ≤ length ts
said-takes w (inl (u, middle, taken, (same, end))) = let first = ap length taken.tokens in let rest = ap length end in omega (arith, first, rest)
said-takes w (inr (same, end)) = let rest = ap length end in omega (arith, rest)

column-takes : (ts : Tokens) (c : ColumnRef) (us : Tokens) → column ts c us → 1 + length us ≤ length ts
unfolding column qualified
column-takes ts x us (q, a, inl (first, b, front, (u, c, dot, (second, d, back, (same, end)))), (value, last)) =
    let one_less = name-takes front in
    let two_less = token-takes dot in
    let three_less = name-takes back in
    let there = ap length end in
    let here = ap length last in
    omega (arith, one_less, two_less, three_less, there, here)
column-takes ts x us (q, a, inr (only, b, front, (same, end)), (value, last)) =
    let one_less = name-takes front in
    let there = ap length end in
    let here = ap length last in
    omega (arith, one_less, there, here)

takes : {rule : Rule} {ts us : Tokens} {x : Meaning rule} → Spells rule ts x us → 1 + length us ≤ length ts
takes (Spells.plain_literal l same) = let a = one-takes (literal-back _ _ _ l) in omega (arith, a)
takes (Spells.param p same) = let a = token-takes p in omega (arith, a)
takes (Spells.column_reference c same) = column-takes _ _ _ c
takes (Spells.call_star f opened star closed same) =
    let a = name-takes f in let b = token-takes opened in let c = token-takes star in let d = token-takes closed in omega (arith, a, b, c, d)
takes (Spells.call f opened x closed same) =
    let a = name-takes f in let b = token-takes opened in let c = takes x in let d = token-takes closed in omega (arith, a, b, c, d)
takes (Spells.parenthesized opened x closed same) = let a = token-takes opened in let b = takes x in let c = token-takes closed in omega (arith, a, b, c)
takes (Spells.negative_literal minus number same) = let a = token-takes minus in let b = token-takes number in omega (arith, a, b)
takes (Spells.minus minus none x same) = let a = token-takes minus in let b = ap length none.0 in let c = takes x in omega (arith, a, b, c)
takes (Spells.only_primary x) = takes x
takes (Spells.only_signed x) = takes x
takes (Spells.multiplied x op y same) = let a = takes x in let b = one-takes (stands-multiplicative.back _ _ _ op) in let c = takes y in omega (arith, a, b, c)
takes (Spells.only_product x) = takes x
takes (Spells.added x op y same) = let a = takes x in let b = one-takes (stands-additive.back _ _ _ op) in let c = takes y in omega (arith, a, b, c)
takes (Spells.only_sum x) = takes x
takes (Spells.in_list x negated word opened xs closed same) =
    let a = takes x in let b = said-takes "not" negated in let c = token-takes word in let d = token-takes opened in let f = takes xs in let g = token-takes closed in omega (arith, a, b, c, d, f, g)
takes (Spells.between x negated word low and high same) =
    let a = takes x in let b = said-takes "not" negated in let c = token-takes word in let d = takes low in let f = token-takes and in let g = takes high in omega (arith, a, b, c, d, f, g)
takes (Spells.only_membership x) = takes x
takes (Spells.compared x op y same) = let a = takes x in let b = one-takes (stands-comparison.back _ _ _ op) in let c = takes y in omega (arith, a, b, c)
takes (Spells.only_comparison x) = takes x
takes (Spells.null_tested x is negated null same) =
    let a = takes x in let b = token-takes is in let c = said-takes "not" negated in let d = token-takes null in omega (arith, a, b, c, d)
takes (Spells.negated word x same) = let a = token-takes word in let b = takes x in omega (arith, a, b)
takes (Spells.only_null_test x) = takes x
takes (Spells.conjoined xs same) = takes xs
takes (Spells.disjoined xs same) = takes xs
takes (Spells.last_negation x same) = takes x
takes (Spells.next_negation x word xs same) = let a = takes x in let b = token-takes word in let c = takes xs in omega (arith, a, b, c)
takes (Spells.last_conjunction x same) = takes x
takes (Spells.next_conjunction x word xs same) = let a = takes x in let b = token-takes word in let c = takes xs in omega (arith, a, b, c)
takes (Spells.last_expression x same) = takes x
takes (Spells.next_expression x comma xs same) = let a = takes x in let b = token-takes comma in let c = takes xs in omega (arith, a, b, c)

-- ---- a chain, one more at its end

many-more : {A : Type 0} (P : Line A) (ts : Tokens) (xs : List A) (a us : Tokens) (x : A) → many P ts xs a → P a x us → many P ts (xs ++ x ∷ []) us
many-more P ts [] a us x none last = (us, subst (λ vs. P vs x us) none last, refl)
many-more P ts (y ∷ xs) a us x (middle, first, rest) last = (middle, first, many-more P middle xs a us x rest last)

grouped-more : (left : Expr) (others : List (Arithmetic × Expr)) (op : Arithmetic) (y : Expr) → grouped left (others ++ (op, y) ∷ []) ≡ e.Arithmetic op (grouped left others) y
grouped-more left [] op y = refl
grouped-more left (next ∷ others) op y = grouped-more (e.Arithmetic next.0 left next.1) others op y

next-chain : (O : Line Arithmetic) (P : Line Expr) (ts a b us : Tokens) (x y z : Expr) (op : Arithmetic) → chain O P ts x a → O a op b → P b y us → z ≡ e.Arithmetic op x y → chain O P ts z us
next-chain O P ts a b us x y z op (first, c, front, (others, d, more, (same, end))) operator right value =
    let here : O d op b = subst (λ vs. O vs op b) end operator in (
      first,
      c,
      front,
      (
        others ++ (op, y) ∷ [],
        us,
        many-more (applied O P) c others d us (op, y) more (op, b, here, (y, us, right, (refl, refl))),
        (value ∙ (ap (λ l. e.Arithmetic op l y) same ∙ sym (grouped-more first others op y)), refl),
      ),
    )

-- ---- what a case spells, its line spells

-- the line of a rule, with others nested in it no deeper than the number
abbrev line : (rule : Rule) → ℕ → Line (Meaning rule)
line Rule.primary d = expr.primary (within d)
line Rule.signed d = expr.signed (within d)
line Rule.product d = expr.product (within d)
line Rule.sum d = expr.sum (within d)
line Rule.membership d = expr.membership (within d)
line Rule.comparison d = expr.comparison (within d)
line Rule.null_test d = expr.null_test (within d)
line Rule.negation d = expr.negation (within d)
line Rule.conjunction d = expr.conjunction (within d)
line Rule.disjunction d = expr.disjunction (within d)
line Rule.negations d = separated (key "and") (expr.negation (within d))
line Rule.conjunctions d = separated (key "or") (expr.conjunction (within d))
line Rule.expressions d = list (expr.disjunction (within d))

-- one level down
below-whole : (d : ℕ) (ts : Tokens) (x : Expr) (us : Tokens) → 1 + length ts ≤ d → ((n : ℕ) → length ts ≤ n → expr.disjunction (within n) ts x us) → within d Whole ts x us
unfolding within
below-whole zero ts x us few all = absurd (omega (arith, few))
below-whole (suc d) ts x us few all = all d (omega (arith, few))

below-negated : (d : ℕ) (ts : Tokens) (x : Expr) (us : Tokens) → 1 + length ts ≤ d → ((n : ℕ) → length ts ≤ n → expr.negation (within n) ts x us) → within d Negated ts x us
unfolding within
below-negated zero ts x us few all = absurd (omega (arith, few))
below-negated (suc d) ts x us few all = all d (omega (arith, few))

below-signed : (d : ℕ) (ts : Tokens) (x : Expr) (us : Tokens) → 1 + length ts ≤ d → ((n : ℕ) → length ts ≤ n → expr.signed (within n) ts x us) → within d Signed ts x us
unfolding within
below-signed zero ts x us few all = absurd (omega (arith, few))
below-signed (suc d) ts x us few all = all d (omega (arith, few))

below-list : (d : ℕ) (ts : Tokens) (xs : List Expr) (us : Tokens) → 1 + length ts ≤ d → ((n : ℕ) → length ts ≤ n → list (expr.disjunction (within n)) ts xs us) → list (within d Whole) ts xs us
unfolding within
below-list zero ts xs us few all = absurd (omega (arith, few))
below-list (suc d) ts xs us few all = all d (omega (arith, few))

line-of : {rule : Rule} {ts us : Tokens} {x : Meaning rule} → Spells rule ts x us → (d : ℕ) → length ts ≤ d → line rule d ts x us
unfolding expr.primary expr.signed expr.product expr.sum expr.in_list expr.between expr.membership expr.comparison expr.null_test expr.negation expr.conjunction expr.disjunction column qualified
line-of {us = us} {x = x} (Spells.plain_literal {value = l} spelt same) d few = inr (inl (x, us, inl (l, us, spelt, (same, refl)), (refl, refl)))
line-of {us = us} {x = x} (Spells.param {digits = digits} spelt same) d few = inr (inl (x, us, inr (digits, us, spelt, (same, refl)), (refl, refl)))
line-of {us = us} (Spells.column_reference (q, k, inl (first, a, front, (u, b, dot, (second, c, back, (pair, end)))), (value, last)) same) d few =
    inr (inr (first, a, front, inr (inl (tt, b, dot, (second, c, back, (same ∙ ap e.Column (value ∙ ap (λ p. record { item = p.0; name = p.1 }) pair), last ∙ end))))))
line-of {us = us} (Spells.column_reference (q, k, inr (only, a, front, (pair, end)), (value, last)) same) d few =
    inr (inr (only, a, front, inr (inr (same ∙ ap e.Column (value ∙ ap (λ p. record { item = p.0; name = p.1 }) pair), last ∙ end))))
line-of {us = us} (Spells.call_star {a = a} {b = b} {c = c} {function = f} front opened star closed same) d few =
    inr (inr (f, a, front, inl (tt, b, opened, inl (tt, c, star, (tt, us, closed, (same, refl))))))
line-of {us = us} (Spells.call {a = a} {b = b} {c = c} {function = f} {x = x} front opened inner closed same) d few =
    let one_less = name-takes front in
    let two_less = token-takes opened in
    inr (inr (f, a, front, inl (tt, b, opened, inr (x, c, below-whole d b x c (omega (arith, one_less, two_less, few)) (line-of inner), (tt, us, closed, (same, refl))))))
line-of {us = us} (Spells.parenthesized {a = a} {b = b} {x = x} opened inner closed same) d few =
    let one_less = token-takes opened in
    inl (tt, a, opened, (x, b, below-whole d a x b (omega (arith, one_less, few)) (line-of inner), (tt, us, closed, (same, refl))))
line-of {us = us} (Spells.negative_literal {a = a} {digits = digits} minus number same) d few = inl (tt, a, minus, inl (digits, us, number, (same, refl)))
line-of {us = us} (Spells.minus {a = a} {b = b} {x = x} minus none inner same) d few =
    let one_less = token-takes minus in
    let none_less = ap length none.0 in
    inl (tt, a, minus, inr (tt, b, none, (x, us, below-signed d b x us (omega (arith, one_less, none_less, few)) (line-of inner), (same, refl))))
line-of (Spells.only_primary inner) d few = inr (line-of inner d few)
line-of {us = us} {x = x} (Spells.only_signed inner) d few = (x, us, line-of inner d few, ([], us, refl, (refl, refl)))
line-of {ts = ts} {us = us} {x = z} (Spells.multiplied {a = a} {b = b} {x = x} {y = y} {op = op} left operator right same) d few =
    let less = takes left in
    let one_less = one-takes (stands-multiplicative.back _ _ _ operator) in
    next-chain multiplicative (expr.signed (within d)) ts a b us x y z op (line-of left d few) operator (line-of right d (omega (arith, less, one_less, few))) same
line-of {us = us} {x = x} (Spells.only_product inner) d few = (x, us, line-of inner d few, ([], us, refl, (refl, refl)))
line-of {ts = ts} {us = us} {x = z} (Spells.added {a = a} {b = b} {x = x} {y = y} {op = op} left operator right same) d few =
    let less = takes left in
    let one_less = one-takes (stands-additive.back _ _ _ operator) in
    next-chain additive (expr.product (within d)) ts a b us x y z op (line-of left d few) operator (line-of right d (omega (arith, less, one_less, few))) same
line-of {us = us} {x = x} (Spells.only_sum inner) d few = (x, us, line-of inner d few, inr (inr (inr (refl, refl))))
line-of {us = us} (Spells.in_list {a = a} {c = c} {d = g} {f = f} {x = x} {xs = xs} left (inl (u, k, not, (same_not, here))) word opened inner closed same) d few =
    let less = takes left in
    let one_less = token-takes not in
    let no_less = ap length here in
    let two_less = token-takes word in
    let three_less = token-takes opened in (
      x,
      a,
      line-of left d few,
      inl (
        tt,
        k,
        not,
        inl (
          tt,
          c,
          beginning here word,
          (
            tt,
            g,
            opened,
            (
              xs,
              f,
              below-list d g xs f (omega (arith, less, one_less, no_less, two_less, three_less, few)) (line-of inner),
              (tt, us, closed, (same ∙ ap (e.InList x xs) same_not, refl)),
            ),
          ),
        ),
      ),
    )
line-of {us = us} (Spells.in_list {a = a} {c = c} {d = g} {f = f} {x = x} {xs = xs} left (inr (same_not, here)) word opened inner closed same) d few =
    let less = takes left in
    let no_less = ap length here in
    let two_less = token-takes word in
    let three_less = token-takes opened in (
      x,
      a,
      line-of left d few,
      inr (inl (
        tt,
        c,
        beginning here word,
        (
          tt,
          g,
          opened,
          (
            xs,
            f,
            below-list d g xs f (omega (arith, less, no_less, two_less, three_less, few)) (line-of inner),
            (tt, us, closed, (same ∙ ap (e.InList x xs) same_not, refl)),
          ),
        ),
      )),
    )
line-of {us = us} (Spells.between {a = a} {c = c} {d = g} {f = f} {x = x} {low = low} {high = high} left (inl (u, k, not, (same_not, here))) word first and last same) d few =
    let less = takes left in
    let one_less = token-takes not in
    let no_less = ap length here in
    let two_less = token-takes word in
    let low_less = takes first in
    let and_less = token-takes and in (
      x,
      a,
      line-of left d few,
      inl (
        tt,
        k,
        not,
        inr (inl (
          tt,
          c,
          beginning here word,
          (
            low,
            g,
            line-of first d (omega (arith, less, one_less, no_less, two_less, few)),
            (tt, f, and, (high, us, line-of last d (omega (arith, less, one_less, no_less, two_less, low_less, and_less, few)), (same ∙ ap (e.Between x low high) same_not, refl))),
          ),
        )),
      ),
    )
line-of {us = us} (Spells.between {a = a} {c = c} {d = g} {f = f} {x = x} {low = low} {high = high} left (inr (same_not, here)) word first and last same) d few =
    let less = takes left in
    let no_less = ap length here in
    let two_less = token-takes word in
    let low_less = takes first in
    let and_less = token-takes and in (
      x,
      a,
      line-of left d few,
      inr (inr (inl (
        tt,
        c,
        beginning here word,
        (
          low,
          g,
          line-of first d (omega (arith, less, no_less, two_less, few)),
          (tt, f, and, (high, us, line-of last d (omega (arith, less, no_less, two_less, low_less, and_less, few)), (same ∙ ap (e.Between x low high) same_not, refl))),
        ),
      ))),
    )
line-of {us = us} {x = x} (Spells.only_membership inner) d few = (x, us, line-of inner d few, inr (refl, refl))
line-of {us = us} (Spells.compared {a = a} {b = b} {x = x} {y = y} {op = op} left operator right same) d few =
    let less = takes left in
    let one_less = one-takes (stands-comparison.back _ _ _ operator) in
    (x, a, line-of left d few, inl (op, b, operator, (y, us, line-of right d (omega (arith, less, one_less, few)), (same, refl))))
line-of {us = us} {x = x} (Spells.only_comparison inner) d few = (x, us, line-of inner d few, inr (refl, refl))
line-of {us = us} (Spells.null_tested {a = a} {b = b} {c = c} {x = x} {is_not = is_not} left is not null same) d few =
    (x, a, line-of left d few, inl (tt, b, is, (is_not, c, not, (tt, us, null, (same, refl)))))
line-of {us = us} (Spells.negated {a = a} {x = x} word inner same) d few =
    let one_less = token-takes word in
    inl (tt, a, word, (x, us, below-negated d a x us (omega (arith, one_less, few)) (line-of inner), (same, refl)))
line-of (Spells.only_null_test inner) d few = inr (line-of inner d few)
line-of {us = us} (Spells.conjoined {xs = xs} inner same) d few = (xs, us, line-of inner d few, (same, refl))
line-of {us = us} (Spells.disjoined {xs = xs} inner same) d few = (xs, us, line-of inner d few, (same, refl))
line-of {ts = ts} {us = us} {x = xs} (Spells.last_negation {x = x} inner same) d few = last-separated (key "and") (expr.negation (within d)) ts us x xs (line-of inner d few) same
line-of {ts = ts} {us = us} {x = ys} (Spells.next_negation {a = a} {b = b} {x = x} {xs = xs} first word rest same) d few =
    let less = takes first in
    let one_less = token-takes word in
    next-separated (key "and") (expr.negation (within d)) ts a b us x xs ys (line-of first d few) word (line-of rest d (omega (arith, less, one_less, few))) same
line-of {ts = ts} {us = us} {x = xs} (Spells.last_conjunction {x = x} inner same) d few = last-separated (key "or") (expr.conjunction (within d)) ts us x xs (line-of inner d few) same
line-of {ts = ts} {us = us} {x = ys} (Spells.next_conjunction {a = a} {b = b} {x = x} {xs = xs} first word rest same) d few =
    let less = takes first in
    let one_less = token-takes word in
    next-separated (key "or") (expr.conjunction (within d)) ts a b us x xs ys (line-of first d few) word (line-of rest d (omega (arith, less, one_less, few))) same
line-of {ts = ts} {us = us} {x = xs} (Spells.last_expression {x = x} inner same) d few = last-separated (mark sign.Comma) (expr.disjunction (within d)) ts us x xs (line-of inner d few) same
line-of {ts = ts} {us = us} {x = ys} (Spells.next_expression {a = a} {b = b} {x = x} {xs = xs} first comma rest same) d few =
    let less = takes first in
    let one_less = token-takes comma in
    next-separated (mark sign.Comma) (expr.disjunction (within d)) ts a b us x xs ys (line-of first d few) comma (line-of rest d (omega (arith, less, one_less, few))) same

pub line-spelt : (ts : Tokens) (x : Expr) (us : Tokens) → expression ts x us → (d : ℕ) → length ts ≤ d → expr.disjunction (within d) ts x us
unfolding expression
line-spelt ts x us spelt d few = line-of spelt d few

-- ---- what a line spells, a case spells

spelt-ending : {rule : Rule} {ts us vs : Tokens} {x : Meaning rule} → Spells rule ts x us → us ≡ vs → Spells rule ts x vs
spelt-ending {rule = rule} {ts = ts} {x = x} spelt same = subst (λ ws. Spells rule ts x ws) same spelt

-- operators with their operands, grouped to the left
chain-of : (O : Line Arithmetic) (P S : Line Expr)
    → ((ts a b us : Tokens) (x y : Expr) (op : Arithmetic) → S ts x a → O a op b → P b y us → S ts (e.Arithmetic op x y) us)
    → (ts a b us : Tokens) (left : Expr) (others : List (Arithmetic × Expr)) (x : Expr) → S ts left a → many (applied O P) a others b → x ≡ grouped left others → us ≡ b → S ts x us
chain-of O P S next ts a b us left [] x front more same end = subst (λ y. S ts y us) (sym same) (subst (λ vs. S ts left vs) (sym (end ∙ more)) front)
chain-of O P S next ts a b us left (o ∷ others) x front (c, (op, k, operator, (right, m, operand, (pair, here))), rest) same end =
    let built = next ts a k m left right op front operator operand in
    let on : many (applied O P) m others b = subst (λ vs. many (applied O P) vs others b) here rest in
    chain-of O P S next ts m b us (e.Arithmetic op left right) others x built on (same ∙ ap (λ p. grouped (e.Arithmetic p.0 left p.1) others) pair) end

module _ (nested : Level → Line Expr)
    (whole : (ts : Tokens) (x : Expr) (us : Tokens) → nested Whole ts x us → Spells Rule.disjunction ts x us)
    (negated : (ts : Tokens) (x : Expr) (us : Tokens) → nested Negated ts x us → Spells Rule.negation ts x us)
    (below_sign : (ts : Tokens) (x : Expr) (us : Tokens) → nested Signed ts x us → Spells Rule.signed ts x us) where
  case-primary : (ts : Tokens) (x : Expr) (us : Tokens) → expr.primary nested ts x us → Spells Rule.primary ts x us
  unfolding expr.primary column qualified
  case-primary ts x us (inl (u, a, opened, (inner, b, spelt, (v, c, closed, (same, end))))) = Spells.parenthesized opened (whole a inner b spelt) (ending closed (sym end)) same
  case-primary ts x us (inr (inl (y, a, inl (value, b, found, (same, here)), (copy, end)))) = Spells.plain_literal (subst (λ vs. literal ts value vs) (sym (end ∙ here)) found) (copy ∙ same)
  case-primary ts x us (inr (inl (y, a, inr (digits, b, found, (same, here)), (copy, end)))) = Spells.param (ending found (sym (end ∙ here))) (copy ∙ same)
  case-primary ts x us (inr (inr (function, a, front, inl (u, b, opened, inl (v, c, star, (w, d, closed, (same, end))))))) = Spells.call_star front opened star (ending closed (sym end)) same
  case-primary ts x us (inr (inr (function, a, front, inl (u, b, opened, inr (inner, c, spelt, (w, d, closed, (same, end))))))) = Spells.call front opened (whole b inner c spelt) (ending closed (sym end)) same
  case-primary ts x us (inr (inr (first, a, front, inr (inl (u, b, dot, (second, c, back, (same, end))))))) =
      Spells.column_reference {c = record { item = Some first; name = second }} ((Some first, second), us, inl (first, a, front, (tt, b, dot, (second, us, subst (λ vs. name b second vs) (sym end) back, (refl, refl)))), (refl, refl)) same
  case-primary ts x us (inr (inr (first, a, front, inr (inr (same, end))))) =
      Spells.column_reference {c = record { item = None; name = first }} ((None, first), us, inr (first, us, subst (λ vs. name ts first vs) (sym end) front, (refl, refl)), (refl, refl)) same

  case-signed : (ts : Tokens) (x : Expr) (us : Tokens) → expr.signed nested ts x us → Spells Rule.signed ts x us
  unfolding expr.signed
  case-signed ts x us (inl (u, a, minus, inl (digits, b, number, (same, end)))) = Spells.negative_literal minus (ending number (sym end)) same
  case-signed ts x us (inl (u, a, minus, inr (v, b, none, (inner, c, spelt, (same, end))))) = Spells.minus minus none (spelt-ending (below_sign b inner c spelt) (sym end)) same
  case-signed ts x us (inr spelt) = Spells.only_primary (case-primary ts x us spelt)

  case-product : (ts : Tokens) (x : Expr) (us : Tokens) → expr.product nested ts x us → Spells Rule.product ts x us
  unfolding expr.product
  case-product ts x us (first, a, front, (others, b, more, (same, end))) =
      chain-of multiplicative (expr.signed nested) (λ vs y ws. Spells Rule.product vs y ws) (λ vs k m ws l r op left operator right. Spells.multiplied left operator (case-signed m r ws right) refl)
      ts a b us first others x (Spells.only_signed (case-signed ts first a front)) more same end

  case-sum : (ts : Tokens) (x : Expr) (us : Tokens) → expr.sum nested ts x us → Spells Rule.sum ts x us
  unfolding expr.sum
  case-sum ts x us (first, a, front, (others, b, more, (same, end))) =
      chain-of additive (expr.product nested) (λ vs y ws. Spells Rule.sum vs y ws) (λ vs k m ws l r op left operator right. Spells.added left operator (case-product m r ws right) refl)
      ts a b us first others x (Spells.only_product (case-product ts first a front)) more same end

  case-expressions : (ts : Tokens) (xs : List Expr) (us : Tokens) → list (nested Whole) ts xs us → Spells Rule.expressions ts xs us
  case-expressions ts xs us (first, a, front, (others, b, more, (same, end))) =
      list-of (mark sign.Comma) (nested Whole) (λ vs ys ws. Spells Rule.expressions vs ys ws) (λ vs ws y ys spelt one. Spells.last_expression (whole vs y ws spelt) one)
      (λ vs k m ws y ys zs spelt comma rest all. Spells.next_expression (whole vs y k spelt) comma rest all) ts a b us first others xs front more same end

  case-tested : (ts a us : Tokens) (operand x : Expr) (is_not : Bool) (b : Tokens) → Spells Rule.sum ts operand a → said "not" a is_not b → expr.tested nested operand is_not (λ vs y ws. ⊥) b x us → Spells Rule.membership ts x us
  unfolding expr.in_list expr.between
  case-tested ts a us operand x is_not b left not (inl (u, c, word, (v, d, opened, (xs, k, inner, (w, m, closed, (same, end)))))) =
      Spells.in_list left not word opened (case-expressions d xs k inner) (ending closed (sym end)) same
  case-tested ts a us operand x is_not b left not (inr (inl (u, c, word, (low, d, first, (v, k, and, (high, m, last, (same, end))))))) =
      Spells.between left not word (case-sum c low d first) and (spelt-ending (case-sum k high m last) (sym end)) same
  case-tested ts a us operand x is_not b left not (inr (inr none)) = absurd none

  case-membership : (ts : Tokens) (x : Expr) (us : Tokens) → expr.membership nested ts x us → Spells Rule.membership ts x us
  unfolding expr.membership
  case-membership ts x us (operand, a, front, inl (u, b, not, behind)) = case-tested ts a us operand x true b (case-sum ts operand a front) (inl (tt, b, not, (refl, refl))) behind
  case-membership ts x us (operand, a, front, inr (inl spelt)) = case-tested ts a us operand x false a (case-sum ts operand a front) (inr (refl, refl)) (inl spelt)
  case-membership ts x us (operand, a, front, inr (inr (inl spelt))) = case-tested ts a us operand x false a (case-sum ts operand a front) (inr (refl, refl)) (inr (inl spelt))
  case-membership ts x us (operand, a, front, inr (inr (inr (same, end)))) =
      subst (λ y. Spells Rule.membership ts y us) (sym same) (Spells.only_sum (spelt-ending (case-sum ts operand a front) (sym end)))

  case-comparison : (ts : Tokens) (x : Expr) (us : Tokens) → expr.comparison nested ts x us → Spells Rule.comparison ts x us
  unfolding expr.comparison
  case-comparison ts x us (left, a, front, inl (op, b, operator, (right, c, back, (same, end)))) =
      Spells.compared (case-membership ts left a front) operator (spelt-ending (case-membership b right c back) (sym end)) same
  case-comparison ts x us (left, a, front, inr (same, end)) = subst (λ y. Spells Rule.comparison ts y us) (sym same) (Spells.only_membership (spelt-ending (case-membership ts left a front) (sym end)))

  case-null_test : (ts : Tokens) (x : Expr) (us : Tokens) → expr.null_test nested ts x us → Spells Rule.null_test ts x us
  unfolding expr.null_test
  case-null_test ts x us (operand, a, front, inl (u, b, is, (is_not, c, not, (v, d, null, (same, end))))) = Spells.null_tested (case-comparison ts operand a front) is not (ending null (sym end)) same
  case-null_test ts x us (operand, a, front, inr (same, end)) = subst (λ y. Spells Rule.null_test ts y us) (sym same) (Spells.only_comparison (spelt-ending (case-comparison ts operand a front) (sym end)))

  case-negation : (ts : Tokens) (x : Expr) (us : Tokens) → expr.negation nested ts x us → Spells Rule.negation ts x us
  unfolding expr.negation
  case-negation ts x us (inl (u, a, word, (inner, b, spelt, (same, end)))) = Spells.negated word (spelt-ending (negated a inner b spelt) (sym end)) same
  case-negation ts x us (inr spelt) = Spells.only_null_test (case-null_test ts x us spelt)

  case-conjunction : (ts : Tokens) (x : Expr) (us : Tokens) → expr.conjunction nested ts x us → Spells Rule.conjunction ts x us
  unfolding expr.conjunction
  case-conjunction ts x us (xs, k, (first, a, front, (others, b, more, (all, here))), (same, end)) =
      Spells.conjoined (list-of (key "and") (expr.negation nested) (λ vs ys ws. Spells Rule.negations vs ys ws) (λ vs ws y ys spelt one. Spells.last_negation (case-negation vs y ws spelt) one)
      (λ vs c m ws y ys zs spelt word rest every. Spells.next_negation (case-negation vs y c spelt) word rest every) ts a b us first others xs front more all (end ∙ here)) same

  case-disjunction : (ts : Tokens) (x : Expr) (us : Tokens) → expr.disjunction nested ts x us → Spells Rule.disjunction ts x us
  unfolding expr.disjunction
  case-disjunction ts x us (xs, k, (first, a, front, (others, b, more, (all, here))), (same, end)) =
      Spells.disjoined (list-of (key "or") (expr.conjunction nested) (λ vs ys ws. Spells Rule.conjunctions vs ys ws) (λ vs ws y ys spelt one. Spells.last_conjunction (case-conjunction vs y ws spelt) one)
      (λ vs c m ws y ys zs spelt word rest every. Spells.next_conjunction (case-conjunction vs y c spelt) word rest every) ts a b us first others xs front more all (end ∙ here)) same

-- an expression at a level
abbrev at_level : Level → Line Expr
at_level Whole ts x us = Spells Rule.disjunction ts x us
at_level Negated ts x us = Spells Rule.negation ts x us
at_level Signed ts x us = Spells Rule.signed ts x us

-- down to each depth
case-within : (d : ℕ) (level : Level) (ts : Tokens) (x : Expr) (us : Tokens) → within d level ts x us → at_level level ts x us
unfolding within
case-within zero level ts x us spelt = absurd spelt
case-within (suc d) Whole ts x us spelt = case-disjunction (within d) (case-within d Whole) (case-within d Negated) (case-within d Signed) ts x us spelt
case-within (suc d) Negated ts x us spelt = case-negation (within d) (case-within d Whole) (case-within d Negated) (case-within d Signed) ts x us spelt
case-within (suc d) Signed ts x us spelt = case-signed (within d) (case-within d Whole) (case-within d Negated) (case-within d Signed) ts x us spelt

pub spelt-by-line : (d : ℕ) (ts : Tokens) (x : Expr) (us : Tokens) → expr.disjunction (within d) ts x us → expression ts x us
unfolding expression
spelt-by-line d ts x us spelt = case-disjunction (within d) (case-within d Whole) (case-within d Negated) (case-within d Signed) ts x us spelt
