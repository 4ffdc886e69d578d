-- What a line spells is a front of the tokens, and is spelt by that front whatever stands behind it.
use Rattle.std.proofs.Common.{◌≡◌, inl, inr, ⊎_elim, ℕ, zero, suc, ◌+◌, ◌≤◌, Bool, true, false, List, [], ◌∷◌, ◌++◌, length, Some, None, codes, refl, sym, ap, subst, ◌∙◌, arith}
use Rattle.std.proofs.lemmas.List.{append_assoc}
use Rattle.sql_tokens.specs.declared.token.Token.TheVariants as token
use Rattle.sql_tokens.specs.declared.token.Sign.{Sign}
use Rattle.sql_tokens.specs.declared.token.Sign.TheVariants as sign
use Rattle.sql_tree.specs.declared.expr.Arithmetic.{Arithmetic, TheVariants.Add, TheVariants.Subtract, TheVariants.Multiply, TheVariants.Divide}
use Rattle.sql_tree.specs.declared.expr.Comparison.TheVariants.{Equal, NotEqual, Less, LessEqual, Greater, GreaterEqual}
use Rattle.sql_tree.specs.declared.expr.Literal.{Literal}
use Rattle.sql_tree.specs.declared.expr.Literal.TheVariants as literal
use Rattle.sql_tree.specs.declared.expr.Expr.{Expr}
use Rattle.sql_tree.specs.declared.expr.Expr.TheVariants as e
use Rattle.sql_expr.specs.declared.grammar.Level.{Level}
use Rattle.sql_expr.specs.declared.grammar.Level.TheVariants.{Whole, Negated, Signed}
use Rattle.sql_expr.specs.Reading.{Text, Tokens}
use Prim.Native.String.{String}
use Rattle.sql_expr.specs.Lines.{Line, gives, unless, word as a_word, mark, many, name, number, string, parameter}
use Rattle.sql_expr.specs.Lines as lines
use Rattle.sql_expr.specs.Literals.{negative_number}
use Rattle.sql_expr.specs.Grammar as grammar
use Rattle.sql_expr.proofs.LineWords.{nowhere}
use Rattle.sql_expr.proofs.LineWords as words
use Rattle.sql_expr.proofs.TokenKinds.{constant}
use Rattle.sql_expr.proofs.ExpressionLines as expr
use Rattle.sql_expr.proofs.ExpressionCases.{spelt-by-line, line-spelt}
use Rattle.sql_expr.proofs.ExpressionAgreement.{within-takes}

pub record Framed {A : Type 0} (P : Line A) (ts : Tokens) (a : A) (us : Tokens) : Type 0 where
  pub front : Tokens
  pub joined : ts ≡ front ++ us
  pub anywhere : (vs : Tokens) → P (front ++ vs) a vs

pub record Frames {A : Type 0} (P : Line A) : Type 0 where
  pub at : (ts : Tokens) (a : A) (us : Tokens) → P ts a us → Framed P ts a us

frames-nowhere : {A : Type 0} → Frames (nowhere {A = A})
frames-nowhere = record { at = λ ts a us spelt. absurd spelt }

frames-gives : {A : Type 0} (a : A) → Frames (gives a)
frames-gives a = record { at = λ ts b us spelt. record { front = []; joined = sym spelt.1; anywhere = λ vs. (spelt.0, refl) } }

frames-name : Frames name
frames-name = record {
  at = λ ts n us spelt. ⊎_elim
      (λ bare. record { front = token.Word n ∷ []; joined = bare.0.tokens; anywhere = λ vs. inl (record { tokens = refl }, bare.1) })
      (λ quoted. record { front = token.Quoted n ∷ []; joined = quoted.tokens; anywhere = λ vs. inr (record { tokens = refl }) })
      spelt;
}

frames-number : Frames number
frames-number = record { at = λ ts digits us spelt. record { front = token.Number digits ∷ []; joined = spelt.tokens; anywhere = λ vs. record { tokens = refl } } }

frames-string : Frames string
frames-string = record { at = λ ts text us spelt. record { front = token.Text text ∷ []; joined = spelt.tokens; anywhere = λ vs. record { tokens = refl } } }

frames-parameter : Frames parameter
frames-parameter = record { at = λ ts digits us spelt. record { front = token.Param digits ∷ []; joined = spelt.tokens; anywhere = λ vs. record { tokens = refl } } }

frames-key : (w : Text) → Frames (a_word w)
frames-key w = record { at = λ ts u us spelt. record { front = token.Word w ∷ []; joined = spelt.tokens; anywhere = λ vs. record { tokens = refl } } }

frames-mark : (s : Sign) → Frames (mark s)
frames-mark s = record { at = λ ts u us spelt. record { front = token.Sign s ∷ []; joined = spelt.tokens; anywhere = λ vs. record { tokens = refl } } }

frames-bind : {A B : Type 0} {P : Line A} {Q : A → Line B} → Frames P → ((a : A) → Frames (Q a)) → Frames (lines.◌>>=◌ P Q)
frames-bind {P = P} {Q = Q} first rest = record {
  at = λ ts b us spelt.
      let f = first.at ts spelt.0 spelt.1 spelt.2 in
      let g = (rest spelt.0).at spelt.1 b us spelt.3 in
      record {
        front = f.front ++ g.front;
        joined = f.joined ∙ (ap (λ vs. f.front ++ vs) g.joined ∙ sym (append_assoc f.front g.front us));
        anywhere = λ vs. subst (λ xs. lines.◌>>=◌ P Q xs b vs) (sym (append_assoc f.front g.front vs)) (spelt.0, g.front ++ vs, f.anywhere (g.front ++ vs), g.anywhere vs);
      };
}

frames-or : {A : Type 0} {P Q : Line A} → Frames P → Frames Q → Frames (lines.◌or◌ P Q)
frames-or {P = P} {Q = Q} first second = record {
  at = λ ts a us spelt. ⊎_elim
      (λ left. let f = first.at ts a us left in record { front = f.front; joined = f.joined; anywhere = λ vs. inl (f.anywhere vs) })
      (λ right. let f = second.at ts a us right in record { front = f.front; joined = f.joined; anywhere = λ vs. inr (f.anywhere vs) })
      spelt;
}

-- ---- lists

frames-mapped : {A B : Type 0} {P : Line A} (f : A → B) → Frames P → Frames (lines.◌<$>◌ f P)
frames-mapped f all = frames-bind all (λ a. frames-gives (f a))

many-framed : {A : Type 0} {P : Line A} → Frames P → (ts : Tokens) (all : List A) (us : Tokens) → many P ts all us → Framed (many P) ts all us
many-framed each ts [] us spelt = record { front = []; joined = sym spelt; anywhere = λ vs. refl }
many-framed {P = P} each ts (a ∷ more) us (middle, first, rest) =
    let f = each.at ts a middle first in
    let g = many-framed each middle more us rest in
    record {
      front = f.front ++ g.front;
      joined = f.joined ∙ (ap (λ vs. f.front ++ vs) g.joined ∙ sym (append_assoc f.front g.front us));
      anywhere = λ vs. subst (λ xs. many P xs (a ∷ more) vs) (sym (append_assoc f.front g.front vs)) (g.front ++ vs, f.anywhere (g.front ++ vs), g.anywhere vs);
    }

frames-many : {A : Type 0} {P : Line A} → Frames P → Frames (many P)
frames-many each = record { at = many-framed each }

frames-separated : {A : Type 0} {L : Line (Unit {0})} {P : Line A} → Frames L → Frames P → Frames (words.separated L P)
frames-separated separator each = frames-bind each (λ first. frames-bind (frames-many (frames-bind separator (λ u. each))) (λ others. frames-gives (first ∷ others)))

frames-said : (keyword : String) → Frames (lines.said keyword)
frames-said keyword = frames-or (frames-bind (frames-key (codes keyword)) (λ u. frames-gives true)) (frames-gives false)

frames-chain : {operator : Line Arithmetic} {operand : Line Expr} → Frames operator → Frames operand → Frames (expr.chain operator operand)
frames-chain o each = frames-bind each (λ first. frames-bind (frames-many (frames-bind o (λ op. frames-bind each (λ right. frames-gives (op, right))))) (λ others. frames-gives (expr.grouped first others)))

-- ---- a look at the next token, which is the first of what comes behind

no_number-framed : {A : Type 0} {Q : Line A} (ts : Tokens) (a : A) (us front : Tokens)
    → ts ≡ front ++ us → ((digits : Text) (vs : Tokens) → ¬ number ts digits vs) → 1 + length us ≤ length ts → ((vs : Tokens) → Q (front ++ vs) a vs) → Framed (lines.◌>>◌ (unless number) Q) ts a us
no_number-framed ts a us [] joined none some anywhere = let same = ap length joined in absurd (omega (arith, same, some))
no_number-framed ts a us (t ∷ front) joined none some anywhere = record {
  front = t ∷ front;
  joined = joined;
  anywhere = λ vs. (tt, t ∷ front ++ vs, (refl, λ digits ws spelt. let here = spelt.tokens in let same : t ≡ token.Number digits = cc in none digits (front ++ us) (record { tokens = joined ∙ ap (λ x. x ∷ front ++ us) same })), anywhere vs);
}

frames-no_number : {A : Type 0} {Q : Line A} → Frames Q → ((ts : Tokens) (a : A) (us : Tokens) → Q ts a us → 1 + length us ≤ length ts) → Frames (lines.◌>>◌ (unless number) Q)
frames-no_number {Q = Q} all some = record {
  at = λ ts a us spelt.
      let here = subst (λ vs. Q vs a us) spelt.2.0 spelt.3 in
      let f = all.at ts a us here in
      no_number-framed ts a us f.front f.joined spelt.2.1 (some ts a us here) f.anywhere;
}

-- ---- expressions

frames-literal : Frames grammar.literal
frames-literal = frames-or (frames-mapped (λ digits. literal.Number (record { negative = false; digits = digits })) frames-number) (frames-or (frames-mapped literal.Text frames-string)
    (frames-or (given "null" literal.Null) (frames-or (given "true" (literal.Bool true)) (given "false" (literal.Bool false)))))
  where
    given : (keyword : String) (value : Literal) → Frames (lines.◌>>◌ (a_word (codes keyword)) (gives value))
    given keyword value = frames-bind (frames-key (codes keyword)) (λ u. frames-gives value)

frames-operator : {A : Type 0} (s : Sign) (value : A) → Frames (lines.◌>>◌ (mark s) (gives value))
frames-operator s value = frames-bind (frames-mark s) (λ u. frames-gives value)

frames-constant : Frames constant
frames-constant = frames-or (frames-mapped e.Literal frames-literal) (frames-mapped e.Param frames-parameter)

frames-comparison_operator : Frames grammar.comparison_operator
frames-comparison_operator = frames-or (frames-operator sign.Equal Equal) (frames-or (frames-operator sign.NotEqual NotEqual) (frames-or (frames-operator sign.Less Less)
    (frames-or (frames-operator sign.LessEqual LessEqual) (frames-or (frames-operator sign.Greater Greater) (frames-operator sign.GreaterEqual GreaterEqual)))))

module _ (nested : Level → Line Expr) (below : (level : Level) → Frames (nested level)) (some : (ts : Tokens) (x : Expr) (us : Tokens) → nested Signed ts x us → 1 + length us ≤ length ts) where
  frames-parenthesized : Frames (expr.parenthesized nested)
  frames-parenthesized = frames-bind (below Whole) (λ inner. frames-bind (frames-mark sign.RightParen) (λ v. frames-gives inner))

  frames-called : (function : Text) → Frames (expr.called nested function)
  frames-called function = frames-or (frames-bind (frames-mark sign.Star) (λ u. frames-bind (frames-mark sign.RightParen) (λ v. frames-gives (e.CallStar function))))
      (frames-bind (below Whole) (λ argument. frames-bind (frames-mark sign.RightParen) (λ v. frames-gives (e.Call function argument))))

  frames-columned : (first : Text) → Frames (expr.columned first)
  frames-columned first = frames-or (frames-bind (frames-mark sign.Dot) (λ u. frames-bind frames-name (λ second. frames-gives (e.Column (record { item = Some first; name = second })))))
      (frames-gives (e.Column (record { item = None; name = first })))

  frames-named : Frames (expr.named nested)
  frames-named = frames-bind frames-name (λ first. frames-or (frames-bind (frames-mark sign.LeftParen) (λ u. frames-called first)) (frames-columned first))

  frames-primary : Frames (expr.primary nested)
  unfolding expr.primary
  frames-primary = frames-or (frames-bind (frames-mark sign.LeftParen) (λ u. frames-parenthesized)) (frames-or (frames-bind frames-constant (λ x. frames-gives x)) frames-named)

  minus-some : (ts : Tokens) (x : Expr) (us : Tokens) → (lines.◌<$>◌ e.Minus (nested Signed)) ts x us → 1 + length us ≤ length ts
  minus-some ts x us (operand, middle, inner, (same, end)) = subst (λ vs. 1 + length vs ≤ length ts) (sym end) (some ts operand middle inner)

  frames-signed : Frames (expr.signed nested)
  unfolding expr.signed
  frames-signed = frames-or (frames-bind (frames-mark sign.Minus) (λ u. frames-or (frames-mapped negative_number frames-number)
      (frames-no_number (frames-mapped e.Minus (below Signed)) minus-some))) frames-primary

  frames-product : Frames (expr.product nested)
  unfolding expr.product
  frames-product = frames-chain (frames-or (frames-operator sign.Star Multiply) (frames-operator sign.Slash Divide)) frames-signed

  frames-sum : Frames (expr.sum nested)
  unfolding expr.sum
  frames-sum = frames-chain (frames-or (frames-operator sign.Plus Add) (frames-operator sign.Minus Subtract)) frames-product

  frames-in_list : (operand : Expr) (negated : Bool) → Frames (expr.in_list nested operand negated)
  unfolding expr.in_list
  frames-in_list operand negated = frames-bind (frames-mark sign.LeftParen) (λ u. frames-bind (frames-separated (frames-mark sign.Comma) (below Whole)) (λ values.
      frames-bind (frames-mark sign.RightParen) (λ v. frames-gives (e.InList operand values negated))))

  frames-between : (operand : Expr) (negated : Bool) → Frames (expr.between nested operand negated)
  unfolding expr.between
  frames-between operand negated = frames-bind frames-sum (λ low. frames-bind (frames-key (codes "and")) (λ u. frames-bind frames-sum (λ high. frames-gives (e.Between operand low high negated))))

  frames-tested : (operand : Expr) (negated : Bool) {other : Line Expr} → Frames other → Frames (expr.tested nested operand negated other)
  frames-tested operand negated rest = frames-or (frames-bind (frames-key (codes "in")) (λ u. frames-in_list operand negated))
      (frames-or (frames-bind (frames-key (codes "between")) (λ u. frames-between operand negated)) rest)

  frames-membership : Frames (expr.membership nested)
  unfolding expr.membership
  frames-membership = frames-bind frames-sum (λ operand. frames-or
      (frames-bind (frames-key (codes "not")) (λ u. frames-tested operand true frames-nowhere))
      (frames-tested operand false (frames-gives operand)))

  frames-comparison : Frames (expr.comparison nested)
  unfolding expr.comparison
  frames-comparison = frames-bind frames-membership (λ left. frames-or
      (frames-bind frames-comparison_operator (λ op. frames-bind frames-membership (λ right. frames-gives (e.Comparison op left right))))
      (frames-gives left))

  frames-null_test : Frames (expr.null_test nested)
  unfolding expr.null_test
  frames-null_test = frames-bind frames-comparison (λ operand. frames-or
      (frames-bind (frames-key (codes "is")) (λ u. frames-bind (frames-said "not") (λ negated. frames-bind (frames-key (codes "null")) (λ v. frames-gives (e.IsNull operand negated)))))
      (frames-gives operand))

  pub frames-negation : Frames (expr.negation nested)
  unfolding expr.negation
  frames-negation = frames-or (frames-bind (frames-key (codes "not")) (λ u. frames-mapped e.Not (below Negated))) frames-null_test

  frames-conjunction : Frames (expr.conjunction nested)
  unfolding expr.conjunction
  frames-conjunction = frames-mapped (grammar.operation e.And) (frames-separated (frames-key (codes "and")) frames-negation)

  pub frames-disjunction : Frames (expr.disjunction nested)
  unfolding expr.disjunction
  frames-disjunction = frames-mapped (grammar.operation e.Or) (frames-separated (frames-key (codes "or")) frames-conjunction)

frames-within : (depth : ℕ) (level : Level) → Frames (expr.within depth level)
unfolding expr.within
frames-within zero level = frames-nowhere
frames-within (suc depth) Whole = frames-disjunction (expr.within depth) (frames-within depth) (within-takes depth Signed)
frames-within (suc depth) Negated = frames-negation (expr.within depth) (frames-within depth) (within-takes depth Signed)
frames-within (suc depth) Signed = frames-signed (expr.within depth) (frames-within depth) (within-takes depth Signed)

pub frames-expression : Frames grammar.expression
frames-expression = record {
  at = λ ts x us spelt.
      let n = length ts in
      let f = (frames-disjunction (expr.within n) (frames-within n) (within-takes n Signed)).at ts x us (line-spelt ts x us spelt n (omega arith)) in
      record { front = f.front; joined = f.joined; anywhere = λ vs. spelt-by-line n (f.front ++ vs) x vs (f.anywhere vs) };
}
