-- Select lists are read exactly where they are spelt.
use Rattle.std.proofs.Common.{◌≡◌, inl, inr, ℕ, Bool, true, false, cond, not, ◌&&◌, ◌||◌, List, [], ◌∷◌, length, drop, Option, Some, None, codes, refl, ap, subst, ◌∙◌, arith}
use Rattle.std.specs.Prelude.{is_some}
use Rattle.std.specs.Str.{bytes_eq}
use Rattle.sql_tokens.specs.declared.token.Token.{Token}
use Rattle.sql_tokens.specs.declared.token.Token.TheVariants as token
use Rattle.sql_tokens.specs.declared.token.Sign.TheVariants as sign
use Rattle.sql_tree.specs.declared.expr.Expr.{Expr}
use Rattle.sql_tree.specs.declared.expr.Expr.TheVariants as e
use Rattle.sql_tree.specs.declared.expr.Literal.TheVariants as literal
use Rattle.sql_tree.specs.declared.select.OutputItem.{OutputItem}
use Rattle.sql_tree.specs.declared.select.OutputItem.TheVariants as output_item
use Rattle.sql_expr.specs.declared.grammar.Level.{Level}
use Rattle.sql_expr.specs.declared.grammar.Level.TheVariants.{Negated}
use Rattle.sql_expr.specs.Reading.{Text, Tokens, Parser, and_then, ◌>>=◌, ◌<$>◌, pure, eat_sign, taken, taken_first, required, behind, sees_word, sees_sign}
use Rattle.sql_expr.specs.Expressions as spec_expression
use Rattle.sql_expr.specs.Literals.{digits_of}
use Rattle.sql_expr.specs.Operators.{additive_of, multiplicative_of}
use Rattle.sql_expr.specs.Names.{is_reserved, name_of, sees_name}
use Rattle.sql_expr.specs.Lines.{Line, gives, word as a_word, mark, maybe}
use Rattle.sql_expr.specs.Lines as lines
use Rattle.sql_expr.specs.Grammar as expression
use Rattle.sql_reader_query.specs.Lists as spec_lists
use Rattle.sql_reader_query.specs.Outputs as spec
use Rattle.sql_expr.proofs.LineWords as words
use Rattle.sql_expr.proofs.Heads.{Barred, Head, clear, all_avoid, begins-clear, and-left, and-right}
use Rattle.sql_expr.proofs.Agreement.{Agrees, bar_word, sign-seen, agrees-pure, agrees-bind, agrees-same, agrees-word, agrees-sign, agrees-expect_sign, eaten, two-tokens}
use Rattle.sql_expr.proofs.ListAgreement.{agrees-list}
use Rattle.sql_expr.proofs.ExpressionAgreement.{agrees-expression, expression_heads, operators, agrees-name}
use Rattle.sql_expr.proofs.TokenKinds.{bar_names, stands-name}
use Rattle.sql_reader.proofs.CommandLines as line
use Rattle.sql_reader.proofs.OptionalAgreement.{also, agrees-given, agrees-looking}

-- ---- [[AS] name]

-- the line in the order in which it is read
abbrev factored : Line (Option Text)
factored = lines.◌or◌ (lines.◌>>◌ (a_word (codes "as")) (lines.◌<$>◌ Some lines.name)) (maybe lines.name)

alias-there : (ts : Tokens) (o : Option Text) (us : Tokens) → factored ts o us → line.alias ts o us
unfolding line.alias
alias-there ts o us (inl (u, middle, word, (a, rest, front, given))) = inl (a, rest, (true, middle, inl (u, middle, word, (refl, refl)), front), given)
alias-there ts o us (inr (inl (a, rest, front, given))) = inl (a, rest, (false, ts, inr (refl, refl), front), given)
alias-there ts o us (inr (inr none)) = inr none

alias-back : (ts : Tokens) (o : Option Text) (us : Tokens) → line.alias ts o us → factored ts o us
unfolding line.alias
alias-back ts o us (inl (a, rest, (b, middle, inl (u, behind_word, word, same), front), given)) = inl (u, behind_word, word, (a, rest, subst (λ vs. lines.name vs a rest) same.1 front, given))
alias-back ts o us (inl (a, rest, (b, middle, inr same, front), given)) = inr (inl (a, rest, subst (λ vs. lines.name vs a rest) same.1 front, given))
alias-back ts o us (inr none) = inr (inr none)

module _ {n : ℕ} where
  pub agrees-alias : (tail : Barred) → all_avoid bar_names (Head.others tail ∷ []) ≡ true → all_avoid (bar_word (codes "as")) (Head.name ∷ Head.others tail ∷ []) ≡ true
      → Agrees (Unit {0}) n spec.alias line.alias 0 (Head.word (codes "as") ∷ Head.name ∷ Head.others tail ∷ []) tail
  unfolding spec.alias
  agrees-alias tail ends apart = agrees-same alias-there alias-back (agrees-word (codes "as") (agrees-bind agrees-name (λ a. agrees-pure (Some a) tail) refl) (agrees-given tail stands-name ends) apart)

-- ---- no expression begins with `name . *`

untaken : {B : Type 0} (sees : Tokens → Bool) (f : Bool → Parser B) (ts : Tokens) → sees ts ≡ false → f false ts ≡ None → (eaten sees >>= f) ts ≡ None
untaken sees f ts e k = ap (λ x. f x (behind x ts)) e ∙ k

-- a name that nothing takes for something else
record Plain (t : Token) (n : Text) : Type 0 where
  named : name_of t ≡ Some n
  constant : spec_expression.constant_of t ≡ None
  opened : (ts : Tokens) → sees_sign sign.LeftParen (t ∷ ts) ≡ false
  minus : (ts : Tokens) → sees_sign sign.Minus (t ∷ ts) ≡ false
  negated : (ts : Tokens) → sees_word (codes "not") (t ∷ ts) ≡ false

plain-word : (w n : Text) → name_of (token.Word w) ≡ Some n → Plain (token.Word w) n
unfolding sees_sign sees_word is_reserved
plain-word w n e =
    let free : (words : List Text) → all_avoid (record { words = words; signs = []; names = false; numbers = false; strings = false; params = false }) (Head.name ∷ []) ≡ true
    → clear (record { words = words; signs = []; names = false; numbers = false; strings = false; params = false }) (token.Word w ∷ []) ≡ true
    = λ words avoid. begins-clear (record { words = words; signs = []; names = false; numbers = false; strings = false; params = false }) (Head.name ∷ []) (token.Word w ∷ []) avoid (ap (λ o. is_some o || false) e) in
    record {
      named = e;
      constant = by (bytes_eq w (codes "null")) (bytes_eq w (codes "true")) (bytes_eq w (codes "false")) (free (codes "null" ∷ codes "true" ∷ codes "false" ∷ []) refl);
      opened = λ ts. refl;
      minus = λ ts. refl;
      negated = λ ts. no-word (bytes_eq w (codes "not")) (free (codes "not" ∷ []) refl);
    }
  where
    by : (a b c : Bool) → not ((a || (b || (c || false))) || false) ≡ true
        → spec_expression.constant_of_literal (cond a (Some literal.Null) (cond b (Some (literal.Bool true)) (cond c (Some (literal.Bool false)) None))) ≡ None
    by true b c e = cc
    by false true c e = cc
    by false false true e = cc
    by false false false e = refl

    no-word : (a : Bool) → not ((a || false) || false) ≡ true → a ≡ false
    no-word true e = cc
    no-word false e = refl

plain : (t : Token) (n : Text) → name_of t ≡ Some n → Plain t n
unfolding sees_sign sees_word
plain (token.Word w) n e = plain-word w n e
plain (token.Quoted q) n e = record { named = e; constant = refl; opened = λ ts. refl; minus = λ ts. refl; negated = λ ts. refl }
plain (token.Sign s) n e = cc
plain (token.Number d) n e = cc
plain (token.Text x) n e = cc
plain (token.Param d) n e = cc
plain (token.Backslash l) n e = cc

module _ (deeper : Level → Parser Expr) (t : Token) (n : Text) (p : Plain t n) (us : Tokens) where
  abbrev all_of : Tokens
  all_of = t ∷ token.Sign sign.Dot ∷ token.Sign sign.Star ∷ us

  no-named : spec_expression.named deeper all_of ≡ None
  unfolding spec_expression.named spec_expression.column taken sees_sign
  no-named = ap (λ o. and_then (and_then (taken_first o t (drop 1 all_of)) required) (λ first. eat_sign sign.LeftParen >>= (λ called. cond called (spec_expression.call deeper first) (spec_expression.column first)))) p.named

  no-primary : spec_expression.primary deeper all_of ≡ None
  unfolding spec_expression.primary taken
  no-primary = untaken (sees_sign sign.LeftParen) (λ opened. cond opened (spec_expression.parenthesized deeper) (taken spec_expression.constant_of >>= spec_expression.constant_or_named deeper)) all_of (p.opened (drop 1 all_of))
      (ap (λ o. and_then (taken_first o t (drop 1 all_of)) (spec_expression.constant_or_named deeper)) p.constant ∙ no-named)

  no-signed : spec_expression.signed deeper all_of ≡ None
  unfolding spec_expression.signed
  no-signed = untaken (sees_sign sign.Minus) (λ minus. cond minus (taken digits_of >>= spec_expression.negative deeper) (spec_expression.primary deeper)) all_of (p.minus (drop 1 all_of)) no-primary

  no-sum : spec_expression.sum deeper all_of ≡ None
  unfolding spec_expression.sum spec_expression.product
  no-sum = ap (λ o. and_then (and_then o (spec_expression.grouped (taken multiplicative_of) (spec_expression.signed deeper))) (spec_expression.grouped (taken additive_of) (spec_expression.product deeper))) no-signed

  no-comparison : spec_expression.comparison deeper all_of ≡ None
  unfolding spec_expression.comparison spec_expression.membership
  no-comparison = rw no-sum refl

  no-null_test : spec_expression.null_test deeper all_of ≡ None
  unfolding spec_expression.null_test
  no-null_test = rw no-comparison refl

  no-negation : spec_expression.negation deeper all_of ≡ None
  unfolding spec_expression.negation
  no-negation = untaken (sees_word (codes "not")) (λ found. cond found (e.Not <$> deeper Negated) (spec_expression.null_test deeper)) all_of (p.negated (drop 1 all_of)) no-null_test

  no-disjunction : spec_expression.disjunction deeper all_of ≡ None
  unfolding spec_expression.disjunction spec_expression.conjunction
  no-disjunction = rw no-negation refl

no-expression : (t : Token) (n : Text) (us : Tokens) → name_of t ≡ Some n → spec_expression.expression (t ∷ token.Sign sign.Dot ∷ token.Sign sign.Star ∷ us) ≡ None
unfolding spec_expression.expression
no-expression t n us e = no-disjunction (spec_expression.nested (length (t ∷ token.Sign sign.Dot ∷ token.Sign sign.Star ∷ us))) t n (plain t n e) us

-- ---- "*" | name "." "*" | expression alias

record AllOf (ts : Tokens) : Type 0 where
  first : Token
  item : Text
  rest : Tokens
  named : name_of first ≡ Some item
  same : ts ≡ first ∷ token.Sign sign.Dot ∷ token.Sign sign.Star ∷ rest

some-item : (o : Option Text) → is_some o ≡ true → (item : Text) × (o ≡ Some item)
some-item (Some item) e = (item, refl)
some-item None e = cc

all-of-seen : (ts : Tokens) → spec.sees_all_of ts ≡ true → AllOf ts
unfolding spec.sees_all_of sees_name
all-of-seen [] e = cc
all-of-seen (t ∷ ts) e =
    let sooner = and-left (is_some (name_of t) && sees_sign sign.Dot ts) (sees_sign sign.Star (drop 1 ts)) e in
    let item = some-item (name_of t) (and-left (is_some (name_of t)) (sees_sign sign.Dot ts) sooner) in
    let dot = sign-seen sign.Dot ts (and-right (is_some (name_of t)) (sees_sign sign.Dot ts) sooner) in
    let star = sign-seen sign.Star (drop 1 ts) (and-right (is_some (name_of t) && sees_sign sign.Dot ts) (sees_sign sign.Star (drop 1 ts)) e) in
    record { first = t; item = item.0; rest = drop 1 (drop 1 ts); named = item.1; same = ap (λ vs. t ∷ vs) (two-tokens dot star) }

abbrev all_of_line : Line OutputItem
all_of_line = lines.◌>>=◌ lines.name (λ item. lines.◌>>◌ (mark sign.Dot) (lines.◌>>◌ (mark sign.Star) (gives (output_item.AllOf item))))

sees-all-of : (ts : Tokens) (o : OutputItem) (us : Tokens) → all_of_line ts o us → spec.sees_all_of ts ≡ true
unfolding spec.sees_all_of sees_name sees_sign
sees-all-of ts o us (item, behind_name, spelt, (u, behind_dot, dot, (v, behind_star, star, given))) =
    let found = stands-name.back ts item behind_name spelt in
    let same : ts ≡ found.0 ∷ token.Sign sign.Dot ∷ token.Sign sign.Star ∷ behind_star = found.1.tokens ∙ ap (λ vs. found.0 ∷ vs) (two-tokens dot star) in
    ap spec.sees_all_of same ∙ ap (λ o. is_some o && true && true) found.2

-- behind an output
abbrev pub output_tail : Barred
output_tail = record { words = codes "as" ∷ operators.words; signs = operators.signs; names = true; numbers = false; strings = false; params = false }

-- behind list(output)
abbrev pub outputs_tail : Barred
outputs_tail = also [] (sign.Comma ∷ []) output_tail

abbrev computed_line : Line OutputItem
computed_line = lines.◌>>=◌ expression.expression (λ x. lines.◌>>=◌ line.alias (λ named. gives (output_item.Expr x named)))

-- behind the expression
agrees-aliased : {n : ℕ} (x : Expr) → Agrees (Unit {0}) n (spec.alias >>= (λ named. pure (output_item.Expr x named))) (lines.◌>>=◌ line.alias (λ named. gives (output_item.Expr x named))) 0
    (Head.word (codes "as") ∷ Head.name ∷ Head.others output_tail ∷ []) output_tail
unfolding is_reserved
agrees-aliased x = agrees-bind (agrees-alias output_tail refl refl) (λ named. agrees-pure (output_item.Expr x named) output_tail) refl

agrees-computed : {n : ℕ} → Agrees (Unit {0}) n spec.computed computed_line 1 expression_heads output_tail
unfolding spec.computed is_reserved
agrees-computed {n = n} = agrees-bind agrees-expression agrees-aliased refl

agrees-all_of : {n : ℕ} → Agrees (Unit {0}) n spec.all_of all_of_line 3 (Head.name ∷ []) output_tail
unfolding spec.all_of
agrees-all_of = agrees-bind agrees-name (λ item. agrees-bind (agrees-expect_sign sign.Dot) (λ u. agrees-bind (agrees-expect_sign sign.Star) (λ v. agrees-pure (output_item.AllOf item) output_tail) refl) refl) refl

computed-apart : (ts : Tokens) (o : OutputItem) (us : Tokens) → computed_line ts o us → clear output_tail us ≡ true → spec.sees_all_of ts ≡ false
unfolding is_reserved
computed-apart ts o us (x, middle, spelt, more) c = by (spec.sees_all_of ts) refl
  where
    free : clear operators middle ≡ true
    free =
        let behind_it : Agrees (Unit {0}) (length ts) (spec.alias >>= (λ named. pure (output_item.Expr x named))) (lines.◌>>=◌ line.alias (λ named. gives (output_item.Expr x named))) 0
        (Head.word (codes "as") ∷ Head.name ∷ Head.others output_tail ∷ []) output_tail = agrees-aliased x in
        begins-clear operators (Head.word (codes "as") ∷ Head.name ∷ Head.others output_tail ∷ []) middle refl (behind_it.starts middle o us more c)

    by : (found : Bool) → spec.sees_all_of ts ≡ found → found ≡ false
    by true e =
        let a = all-of-seen ts e in
        let read = (agrees-expression {S = Unit {0}} {n = length ts}).complete ts x middle (omega arith) spelt free in
        let none = ap spec_expression.expression a.same ∙ no-expression a.first a.item a.rest a.named in
        cc
    by false e = refl

pub agrees-output : {n : ℕ} → Agrees (Unit {0}) n spec.output line.output 1 (Head.sign sign.Star ∷ Head.name ∷ expression_heads) output_tail
unfolding spec.output line.output is_reserved
agrees-output = agrees-sign sign.Star (agrees-pure output_item.All output_tail) (agrees-looking sees-all-of computed-apart agrees-all_of agrees-computed) refl

-- list(output)
pub agrees-outputs : {n : ℕ} → Agrees (Unit {0}) n (spec_lists.listed spec.output) (words.list line.output) 1 (Head.sign sign.Star ∷ Head.name ∷ expression_heads) outputs_tail
unfolding spec_lists.listed is_reserved
agrees-outputs = agrees-list outputs_tail agrees-output refl refl
