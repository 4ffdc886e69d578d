-- A reading function leaves the last of the tokens that it is given.
use Rattle.std.proofs.Common.{◌≡◌, sym, ℕ, zero, suc, Bool, true, false, cond, List, [], ◌∷◌, ◌++◌, length, drop, Option, Some, None, refl, ap, ◌∙◌, codes, ◌+◌, ◌-◌, ◌≤◌, inl, inr, arith}
use Rattle.std.proofs.lemmas.List.{drop-drop, drop_all, length-drop}
use Rattle.std.proofs.lemmas.Bool.{cases_lt}
use Rattle.sql_tokens.specs.declared.token.Token.{Token}
use Rattle.sql_tokens.specs.declared.token.Sign.{Sign}
use Rattle.sql_tokens.specs.declared.token.Sign.TheVariants as sign
use Rattle.sql_tree.specs.declared.expr.Arithmetic.{Arithmetic}
use Rattle.sql_tree.specs.declared.expr.Expr.{Expr}
use Rattle.sql_tree.specs.declared.expr.Expr.TheVariants as e
use Rattle.sql_expr.specs.declared.grammar.Level.{Level}
use Rattle.sql_expr.specs.declared.grammar.Level.TheVariants.{Whole, Negated, Signed}
use Rattle.sql_expr.specs.Reading.{Text, Tokens, Outcome, Parser, and_then, ◌>>=◌, pure, refuse, taken, taken_first, required, behind, eat_word, eat_sign, expect_word, expect_sign, separated_from, goes_on, sees_word, sees_sign}
use Rattle.sql_expr.specs.Literals.{digits_of}
use Rattle.sql_expr.specs.Names.{name, name_of}
use Rattle.sql_expr.specs.Operators.{comparison_of, additive_of, multiplicative_of}
use Rattle.sql_expr.specs.Expressions.{column, constant_of, negative_number, grouped_from, parenthesized, call, named, constant_or_named, primary, negative, signed, product, sum, in_list, between, membership, comparison, null_test, negation, conjunction, disjunction, nested, expression}

pub record Leaves {A : Type 0} (read : Parser A) : Type 0 where
  pub last : (ts : Tokens) (a : A) (us : Tokens) → read ts ≡ Some (a, us) → (n : ℕ) × (us ≡ drop n ts)

-- what the two parts of a sequence read
pub record Parts {A B : Type 0} (first : Outcome A) (rest : A → Parser B) (b : B) (us : Tokens) : Type 0 where
  pub a : A
  pub middle : Tokens
  pub begun : first ≡ Some (a, middle)
  pub ended : rest a middle ≡ Some (b, us)

pub bind_some : {A B : Type 0} (first : Outcome A) (rest : A → Parser B) (b : B) (us : Tokens) → and_then first rest ≡ Some (b, us) → Parts first rest b us
bind_some (Some p) rest b us e = record { a = p.0; middle = p.1; begun = refl; ended = e }
bind_some None rest b us e = cc

rest_of : {A : Type 0} → Outcome A → Tokens → Tokens
rest_of (Some p) ts = p.1
rest_of None ts = ts

pub same_rest : {A : Type 0} (a b : A) (ts us : Tokens) → ◌≡◌ {A = Outcome A} (Some (a, ts)) (Some (b, us)) → us ≡ ts
unfolding rest_of
same_rest a b ts us e = sym (ap (λ o. rest_of o ts) e)

pub leaves-pure : {A : Type 0} (a : A) → Leaves (pure a)
leaves-pure a = record { last = λ ts b us e. (0, same_rest a b ts us e) }

pub leaves-refuse : {A : Type 0} → Leaves (refuse {A = A})
leaves-refuse = record { last = λ ts b us e. cc }

pub leaves-bind : {A B : Type 0} {p : Parser A} {f : A → Parser B} → Leaves p → ((a : A) → Leaves (f a)) → Leaves (p >>= f)
leaves-bind {p = p} {f = f} first rest = record {
  last = λ ts b us e.
      let parts = bind_some (p ts) f b us e in
      let front = first.last ts parts.a parts.middle parts.begun in
      let back = (rest parts.a).last parts.middle b us parts.ended in
      (front.0 + back.0, back.1 ∙ (ap (drop back.0) front.1 ∙ drop-drop back.0 front.0 ts));
}

pub leaves-if : {A : Type 0} (b : Bool) {p q : Parser A} → Leaves p → Leaves q → Leaves (cond b p q)
leaves-if true first second = first
leaves-if false first second = second

-- the bound on the turns may go by the tokens
pub leaves-at : {A : Type 0} (f : Tokens → Parser A) → ((ts : Tokens) → Leaves (f ts)) → Leaves (λ ts. f ts ts)
leaves-at f all = record { last = λ ts a us e. (all ts).last ts a us e }

taken_first-last : {A : Type 0} (o : Option A) (t : Token) (ts : Tokens) (b : Option A) (us : Tokens) → taken_first o t ts ≡ Some (b, us) → (n : ℕ) × (us ≡ drop n (t ∷ ts))
taken_first-last (Some a) t ts b us e = (1, same_rest (Some a) b ts us e)
taken_first-last None t ts b us e = (0, same_rest None b (t ∷ ts) us e)

taken-last : {A : Type 0} (f : Token → Option A) (ts : Tokens) (b : Option A) (us : Tokens) → taken f ts ≡ Some (b, us) → (n : ℕ) × (us ≡ drop n ts)
unfolding taken
taken-last f [] b us e = (0, same_rest None b [] us e)
taken-last f (t ∷ ts) b us e = taken_first-last (f t) t ts b us e

pub leaves-taken : {A : Type 0} (f : Token → Option A) → Leaves (taken f)
leaves-taken f = record { last = taken-last f }

pub leaves-required : {A : Type 0} (o : Option A) → Leaves (required o)
leaves-required (Some a) = leaves-pure a
leaves-required None = leaves-refuse

pub leaves-goes_on : {A B : Type 0} (o : Option A) (f : A → Parser B) (b : B) → ((a : A) → Leaves (f a)) → Leaves (goes_on o f b)
leaves-goes_on (Some a) f b more = more a
leaves-goes_on None f b more = leaves-pure b

behind-last : (found : Bool) (ts : Tokens) → (n : ℕ) × (behind found ts ≡ drop n ts)
behind-last true ts = (1, refl)
behind-last false ts = (0, refl)

eaten-last : (found b : Bool) (ts us : Tokens) → ◌≡◌ {A = Outcome Bool} (Some (found, behind found ts)) (Some (b, us)) → (n : ℕ) × (us ≡ drop n ts)
eaten-last found b ts us e = let here = behind-last found ts in (here.0, same_rest found b (behind found ts) us e ∙ here.1)

pub leaves-eat_word : (word : Text) → Leaves (eat_word word)
leaves-eat_word word = record { last = λ ts b us e. eaten-last (sees_word word ts) b ts us e }

pub leaves-eat_sign : (s : Sign) → Leaves (eat_sign s)
leaves-eat_sign s = record { last = λ ts b us e. eaten-last (sees_sign s ts) b ts us e }

pub leaves-expect_word : (word : Text) → Leaves (expect_word word)
leaves-expect_word word = leaves-bind (leaves-eat_word word) (λ found. leaves-if found (leaves-pure tt) leaves-refuse)

pub leaves-expect_sign : (s : Sign) → Leaves (expect_sign s)
leaves-expect_sign s = leaves-bind (leaves-eat_sign s) (λ found. leaves-if found (leaves-pure tt) leaves-refuse)

pub leaves-name : Leaves name
leaves-name = leaves-bind (leaves-taken name_of) leaves-required

pub leaves-separated_from : {A : Type 0} {separator : Parser Bool} {item : Parser A} → Leaves separator → Leaves item → (n : ℕ) (found : List A) → Leaves (separated_from separator item n found)
unfolding separated_from
leaves-separated_from s i zero found = leaves-refuse
leaves-separated_from s i (suc n) found =
    leaves-bind i (λ x. leaves-bind s (λ more. leaves-if more (leaves-separated_from s i n (found ++ x ∷ [])) (leaves-pure (found ++ x ∷ []))))

pub leaves-grouped_from : {operator : Parser (Option Arithmetic)} {operand : Parser Expr} → Leaves operator → Leaves operand → (n : ℕ) (left : Expr) → Leaves (grouped_from operator operand n left)
unfolding grouped_from
leaves-grouped_from o i zero left = leaves-pure left
leaves-grouped_from {operator = operator} {operand = operand} o i (suc n) left =
    leaves-bind o (λ found. leaves-goes_on found (λ op. operand >>= (λ right. grouped_from operator operand n (e.Arithmetic op left right))) left (λ op. leaves-bind i (λ right. leaves-grouped_from o i n (e.Arithmetic op left right))))

leaves-column : (first : Text) → Leaves (column first)
unfolding column
leaves-column first = leaves-bind (leaves-eat_sign sign.Dot) (λ dotted. leaves-if dotted (leaves-bind leaves-name (λ second. leaves-pure (e.Column (record { item = Some first; name = second })))) (leaves-pure (e.Column (record { item = None; name = first }))))

module _ (deeper : Level → Parser Expr) (below : (level : Level) → Leaves (deeper level)) where
  leaves-parenthesized : Leaves (parenthesized deeper)
  unfolding parenthesized
  leaves-parenthesized = leaves-bind (below Whole) (λ inner. leaves-bind (leaves-expect_sign sign.RightParen) (λ _. leaves-pure inner))

  leaves-call : (function : Text) → Leaves (call deeper function)
  unfolding call
  leaves-call function = leaves-bind (leaves-eat_sign sign.Star) (λ star. leaves-if star
      (leaves-bind (leaves-expect_sign sign.RightParen) (λ _. leaves-pure (e.CallStar function)))
      (leaves-bind (below Whole) (λ argument. leaves-bind (leaves-expect_sign sign.RightParen) (λ _. leaves-pure (e.Call function argument)))))

  leaves-named : Leaves (named deeper)
  unfolding named
  leaves-named = leaves-bind leaves-name (λ first. leaves-bind (leaves-eat_sign sign.LeftParen) (λ called. leaves-if called (leaves-call first) (leaves-column first)))

  leaves-constant_or_named : (o : Option Expr) → Leaves (constant_or_named deeper o)
  leaves-constant_or_named (Some constant) = leaves-pure constant
  leaves-constant_or_named None = leaves-named

  leaves-primary : Leaves (primary deeper)
  unfolding primary
  leaves-primary = leaves-bind (leaves-eat_sign sign.LeftParen) (λ opened. leaves-if opened leaves-parenthesized (leaves-bind (leaves-taken constant_of) leaves-constant_or_named))

  leaves-negative : (o : Option Text) → Leaves (negative deeper o)
  leaves-negative (Some digits) = leaves-pure (negative_number digits)
  leaves-negative None = leaves-bind (below Signed) (λ operand. leaves-pure (e.Minus operand))

  leaves-signed : Leaves (signed deeper)
  unfolding signed
  leaves-signed = leaves-bind (leaves-eat_sign sign.Minus) (λ minus. leaves-if minus (leaves-bind (leaves-taken digits_of) leaves-negative) leaves-primary)

  leaves-product : Leaves (product deeper)
  unfolding product
  leaves-product = leaves-bind leaves-signed (λ first. leaves-at (λ ts. grouped_from (taken multiplicative_of) (signed deeper) (length ts) first) (λ ts. leaves-grouped_from (leaves-taken multiplicative_of) leaves-signed (length ts) first))

  leaves-sum : Leaves (sum deeper)
  unfolding sum
  leaves-sum = leaves-bind leaves-product (λ first. leaves-at (λ ts. grouped_from (taken additive_of) (product deeper) (length ts) first) (λ ts. leaves-grouped_from (leaves-taken additive_of) leaves-product (length ts) first))

  leaves-in_list : (operand : Expr) (negated : Bool) → Leaves (in_list deeper operand negated)
  unfolding in_list
  leaves-in_list operand negated = leaves-bind (leaves-expect_sign sign.LeftParen) (λ _.
      leaves-bind (leaves-at (λ ts. separated_from (eat_sign sign.Comma) (deeper Whole) (length ts) []) (λ ts. leaves-separated_from (leaves-eat_sign sign.Comma) (below Whole) (length ts) [])) (λ listed.
      leaves-bind (leaves-expect_sign sign.RightParen) (λ _. leaves-pure (e.InList operand listed negated))))

  leaves-between : (operand : Expr) (negated : Bool) → Leaves (between deeper operand negated)
  unfolding between
  leaves-between operand negated =
      leaves-bind leaves-sum (λ low. leaves-bind (leaves-expect_word (codes "and")) (λ _. leaves-bind leaves-sum (λ high. leaves-pure (e.Between operand low high negated))))

  leaves-membership : Leaves (membership deeper)
  unfolding membership
  leaves-membership = leaves-bind leaves-sum (λ operand.
      leaves-bind (leaves-eat_word (codes "not")) (λ negated.
      leaves-bind (leaves-eat_word (codes "in")) (λ listed. leaves-if listed (leaves-in_list operand negated)
      (leaves-bind (leaves-eat_word (codes "between")) (λ ranged. leaves-if ranged (leaves-between operand negated) (leaves-if negated leaves-refuse (leaves-pure operand)))))))

  leaves-comparison : Leaves (comparison deeper)
  unfolding comparison
  leaves-comparison = leaves-bind leaves-membership (λ left.
      leaves-bind (leaves-taken comparison_of) (λ found.
      leaves-goes_on found (λ op. membership deeper >>= (λ right. pure (e.Comparison op left right))) left (λ op. leaves-bind leaves-membership (λ right. leaves-pure (e.Comparison op left right)))))

  leaves-null_test : Leaves (null_test deeper)
  unfolding null_test
  leaves-null_test = leaves-bind leaves-comparison (λ operand. leaves-bind (leaves-eat_word (codes "is")) (λ found. leaves-if found
      (leaves-bind (leaves-eat_word (codes "not")) (λ negated. leaves-bind (leaves-expect_word (codes "null")) (λ _. leaves-pure (e.IsNull operand negated))))
      (leaves-pure operand)))

  leaves-negation : Leaves (negation deeper)
  unfolding negation
  leaves-negation = leaves-bind (leaves-eat_word (codes "not")) (λ found. leaves-if found (leaves-bind (below Negated) (λ operand. leaves-pure (e.Not operand))) leaves-null_test)

  leaves-conjunction : Leaves (conjunction deeper)
  unfolding conjunction
  leaves-conjunction = leaves-bind leaves-negation (λ first. leaves-bind (leaves-eat_word (codes "and")) (λ more. leaves-if more
      (leaves-bind (leaves-at (λ ts. separated_from (eat_word (codes "and")) (negation deeper) (length ts) (first ∷ [])) (λ ts. leaves-separated_from (leaves-eat_word (codes "and")) leaves-negation (length ts) (first ∷ []))) (λ all. leaves-pure (e.And all)))
      (leaves-pure first)))

  leaves-disjunction : Leaves (disjunction deeper)
  unfolding disjunction
  leaves-disjunction = leaves-bind leaves-conjunction (λ first. leaves-bind (leaves-eat_word (codes "or")) (λ more. leaves-if more
      (leaves-bind (leaves-at (λ ts. separated_from (eat_word (codes "or")) (conjunction deeper) (length ts) (first ∷ [])) (λ ts. leaves-separated_from (leaves-eat_word (codes "or")) leaves-conjunction (length ts) (first ∷ []))) (λ all. leaves-pure (e.Or all)))
      (leaves-pure first)))

leaves-nested : (depth : ℕ) (level : Level) → Leaves (nested depth level)
unfolding nested
leaves-nested zero level = leaves-refuse
leaves-nested (suc depth) Whole = leaves-disjunction (nested depth) (leaves-nested depth)
leaves-nested (suc depth) Negated = leaves-negation (nested depth) (leaves-nested depth)
leaves-nested (suc depth) Signed = leaves-signed (nested depth) (leaves-nested depth)

pub leaves-expression : Leaves expression
unfolding expression
leaves-expression = leaves-at (λ ts. disjunction (nested (length ts))) (λ ts. leaves-disjunction (nested (length ts)) (leaves-nested (length ts)))

-- where the last of the tokens begin
pub suffix-place : (ts us : Tokens) (k : ℕ) → us ≡ drop k ts → (length us ≤ length ts) × (us ≡ drop (length ts - length us) ts)
suffix-place ts us k e =
    let count = ap length e ∙ length-drop k ts in
    elim (cases_lt k (length ts)) [
      | inl within ↦ (omega (arith, count), let same : length ts - length us ≡ k = omega (arith, count) in e ∙ ap (λ n. drop n ts) (sym same))
      | inr past ↦ (omega (arith, count), let same : length ts - length us ≡ length ts = omega (arith, count) in e ∙ (drop_all k ts past ∙ (sym (drop_all (length ts) ts (omega arith)) ∙ ap (λ n. drop n ts) (sym same))))
    ]

pub read-place : (ts : Tokens) (at : ℕ) (expr : Expr) (us : Tokens) → expression (drop at ts) ≡ Some (expr, us) → (length us ≤ length ts) × (us ≡ drop (length ts - length us) ts)
read-place ts at expr us e =
    let rest = leaves-expression.last (drop at ts) expr us e in
    suffix-place ts us (at + rest.0) (rest.1 ∙ drop-drop rest.0 at ts)
