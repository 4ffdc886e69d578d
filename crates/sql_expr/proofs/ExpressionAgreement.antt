-- Expressions are read exactly where they are spelt.
use Rattle.std.proofs.Common.{◌≡◌, ℕ, zero, suc, ◌+◌, ◌≤◌, Bool, true, false, cond, not, ◌||◌, List, [], ◌∷◌, ◌++◌, length, Some, None, codes, refl, arith}
use Rattle.sql_tokens.specs.declared.token.Token.TheVariants as token
use Rattle.sql_tokens.specs.declared.token.Sign.TheVariants as sign
use Rattle.sql_tree.specs.declared.expr.Expr.{Expr}
use Rattle.sql_tree.specs.declared.expr.Expr.TheVariants as e
use Rattle.sql_expr.specs.declared.grammar.Level.{Level}
use Rattle.sql_expr.specs.declared.grammar.Level.TheVariants.{Whole, Negated, Signed}
use Rattle.sql_expr.specs.Reading.{Text, Tokens, Parser, ◌>>=◌, pure, refuse, eat_word, goes_on}
use Rattle.sql_expr.specs.Names.{is_reserved}
use Rattle.sql_expr.specs.Names as names
use Rattle.sql_expr.specs.Expressions as spec
use Rattle.sql_expr.specs.Lines.{Line, name}
use Rattle.sql_expr.specs.Ended.{is_ended}
use Rattle.sql_expr.specs.Grammar as grammar
use Rattle.sql_expr.proofs.Heads.{Barred, Head, clear, has_word}
use Rattle.sql_expr.proofs.Agreement.{Agrees, nothing, tests-word, agrees-pure, agrees-refuse, agrees-bind, agrees-wider, agrees-fewer, agrees-test, agrees-word, agrees-sign, agrees-word-deeper, agrees-sign-deeper, agrees-expect_word, agrees-expect_sign, agrees-behind, agrees-said, agrees-taken, agrees-unless, agrees-one}
use Rattle.sql_expr.proofs.ExpressionLines as expr
use Rattle.sql_expr.proofs.ExpressionCases.{spelt-by-line, line-spelt}
use Rattle.sql_expr.proofs.ListAgreement.{agrees-list}
use Rattle.sql_expr.proofs.OperandAgreement.{agrees-operands, agrees-chain}
use Rattle.sql_expr.proofs.TokenKinds.{stands-name, stands-number, stands-constant, stands-comparison, stands-additive, stands-multiplicative, constant_heads}

-- the tokens with which an expression begins
abbrev pub expression_heads : List Head
expression_heads =
    Head.word (codes "not") ∷ Head.sign sign.Minus ∷ Head.sign sign.LeftParen ∷ Head.number ∷ Head.string ∷ Head.param
    ∷ Head.word (codes "null") ∷ Head.word (codes "true") ∷ Head.word (codes "false") ∷ Head.name ∷ []

-- the tokens that could go on with an expression
abbrev pub operators : Barred
operators = record {
  words = codes "or" ∷ codes "and" ∷ codes "is" ∷ codes "not" ∷ codes "in" ∷ codes "between" ∷ [];
  signs = sign.Equal ∷ sign.NotEqual ∷ sign.Less ∷ sign.LessEqual ∷ sign.Greater ∷ sign.GreaterEqual
      ∷ sign.Plus ∷ sign.Minus ∷ sign.Star ∷ sign.Slash ∷ sign.LeftParen ∷ sign.Dot ∷ [];
  names = false;
  numbers = false;
  strings = false;
  params = false;
}

-- the tokens that could go on with what stands at a line
abbrev primary_tail : Barred
primary_tail = record { words = []; signs = sign.LeftParen ∷ sign.Dot ∷ []; names = false; numbers = false; strings = false; params = false }

abbrev product_tail : Barred
product_tail = record primary_tail { signs = sign.Star ∷ sign.Slash ∷ sign.LeftParen ∷ sign.Dot ∷ [] }

abbrev sum_tail : Barred
sum_tail = record primary_tail { signs = sign.Plus ∷ sign.Minus ∷ sign.Star ∷ sign.Slash ∷ sign.LeftParen ∷ sign.Dot ∷ [] }

abbrev membership_tail : Barred
membership_tail = record sum_tail { words = codes "not" ∷ codes "in" ∷ codes "between" ∷ [] }

abbrev comparison_tail : Barred
comparison_tail = record membership_tail { signs = operators.signs }

abbrev negation_tail : Barred
negation_tail = record comparison_tail { words = codes "is" ∷ codes "not" ∷ codes "in" ∷ codes "between" ∷ [] }

abbrev conjunction_tail : Barred
conjunction_tail = record comparison_tail { words = codes "and" ∷ codes "is" ∷ codes "not" ∷ codes "in" ∷ codes "between" ∷ [] }

-- those that could go on with a list of expressions
abbrev pub list_tail : Barred
list_tail = record operators { signs = sign.Comma ∷ operators.signs }

abbrev signed_heads : List Head
signed_heads = Head.sign sign.Minus ∷ Head.sign sign.LeftParen ∷ constant_heads ++ Head.name ∷ []

pub agrees-name : {S : Type 0} {n : ℕ} → Agrees S n names.name name 1 (Head.name ∷ []) nothing
agrees-name = agrees-one stands-name

module _ {S : Type 0} {n : ℕ} (deeper : Level → Parser Expr) (nested : Level → Line Expr)
    (whole : Agrees S n (deeper Whole) (nested Whole) 1 expression_heads operators)
    (negated : Agrees S n (deeper Negated) (nested Negated) 1 expression_heads negation_tail)
    (below_sign : Agrees S n (deeper Signed) (nested Signed) 1 signed_heads primary_tail) where
  -- ---- operands

  agrees-parenthesized : Agrees S n (spec.parenthesized deeper) (expr.parenthesized nested) 1 expression_heads nothing
  unfolding spec.parenthesized
  agrees-parenthesized = agrees-fewer 1 (omega arith) (agrees-bind whole (λ inner. agrees-bind (agrees-expect_sign sign.RightParen) (λ u. agrees-pure inner nothing) refl) refl)

  agrees-call : (function : Text) → Agrees S n (spec.call deeper function) (expr.called nested function) 1 (Head.sign sign.Star ∷ expression_heads) nothing
  unfolding spec.call
  agrees-call function = agrees-fewer 1 (omega arith) (agrees-sign sign.Star
      (agrees-bind (agrees-expect_sign sign.RightParen) (λ u. agrees-pure (e.CallStar function) nothing) refl)
      (agrees-bind whole (λ argument. agrees-bind (agrees-expect_sign sign.RightParen) (λ u. agrees-pure (e.Call function argument) nothing) refl) refl) refl)

  agrees-column : (first : Text) → Agrees S (suc n) (spec.column first) (expr.columned first) 0 (Head.sign sign.Dot ∷ Head.others primary_tail ∷ []) primary_tail
  unfolding spec.column
  agrees-column first = agrees-fewer 0 (omega arith) (agrees-sign sign.Dot
      (agrees-bind agrees-name (λ second. agrees-pure (e.Column (record { item = Some first; name = second })) primary_tail) refl)
      (agrees-pure (e.Column (record { item = None; name = first })) primary_tail) refl)

  agrees-named : Agrees S (suc n) (spec.named deeper) (expr.named nested) 1 (Head.name ∷ []) primary_tail
  unfolding spec.named
  agrees-named = agrees-fewer 1 (omega arith) (agrees-bind agrees-name (λ first.
      agrees-sign-deeper sign.LeftParen (agrees-wider primary_tail refl (agrees-call first)) (agrees-column first) refl) refl)

  agrees-primary : Agrees S (suc n) (spec.primary deeper) (expr.primary nested) 1 (Head.sign sign.LeftParen ∷ constant_heads ++ Head.name ∷ []) primary_tail
  unfolding spec.primary expr.primary is_reserved
  agrees-primary = agrees-fewer 1 (omega arith)
      (agrees-sign-deeper sign.LeftParen (agrees-wider primary_tail refl agrees-parenthesized)
      (agrees-taken (spec.constant_or_named deeper) (omega arith) stands-constant (λ constant. agrees-pure {n = n} constant primary_tail) agrees-named refl) refl)

  -- ---- signs and arithmetic

  pub agrees-signed : Agrees S (suc n) (spec.signed deeper) (expr.signed nested) 1 signed_heads primary_tail
  unfolding spec.signed expr.signed
  agrees-signed = agrees-sign-deeper sign.Minus
      (agrees-unless (spec.negative deeper) (omega arith) stands-number (λ digits. agrees-pure {n = n} (spec.negative_number digits) primary_tail)
      (agrees-bind below_sign (λ x. agrees-pure (e.Minus x) primary_tail) refl))
      agrees-primary refl

  agrees-product : Agrees S (suc n) (spec.product deeper) (expr.product nested) 1 signed_heads product_tail
  unfolding spec.product expr.product
  agrees-product = agrees-chain stands-multiplicative agrees-signed product_tail refl refl

  agrees-sum : Agrees S (suc n) (spec.sum deeper) (expr.sum nested) 1 signed_heads sum_tail
  unfolding spec.sum expr.sum
  agrees-sum = agrees-chain stands-additive agrees-product sum_tail refl refl

  -- ---- tests

  agrees-in_list : (operand : Expr) (is_not : Bool) → Agrees S (suc n) (spec.in_list deeper operand is_not) (expr.in_list nested operand is_not) 1 (Head.sign sign.LeftParen ∷ []) membership_tail
  unfolding spec.in_list expr.in_list
  agrees-in_list operand is_not = agrees-fewer 1 (omega arith) (agrees-behind (agrees-expect_sign sign.LeftParen) (λ u.
      agrees-bind (agrees-list list_tail whole refl refl) (λ values.
      agrees-bind (agrees-expect_sign sign.RightParen) (λ v. agrees-pure (e.InList operand values is_not) membership_tail) refl) refl) refl)

  agrees-between : (operand : Expr) (is_not : Bool) → Agrees S (suc n) (spec.between deeper operand is_not) (expr.between nested operand is_not) 1 signed_heads membership_tail
  unfolding spec.between expr.between
  agrees-between operand is_not = agrees-fewer 1 (omega arith) (agrees-bind agrees-sum (λ low.
      agrees-bind (agrees-expect_word (codes "and")) (λ u.
      agrees-bind agrees-sum (λ high. agrees-pure (e.Between operand low high is_not) membership_tail) refl) refl) refl)

  abbrev tested : Expr → Bool → Parser Expr
  tested operand is_not = do
    listed ← eat_word (codes "in")
    cond listed (spec.in_list deeper operand is_not) (do
      ranged ← eat_word (codes "between")
      cond ranged (spec.between deeper operand is_not) (cond is_not refuse (pure operand)))

  agrees-membership : Agrees S (suc n) (spec.membership deeper) (expr.membership nested) 1 signed_heads membership_tail
  unfolding spec.membership expr.membership
  agrees-membership = agrees-fewer 1 (omega arith) (agrees-bind agrees-sum (λ operand.
      agrees-test (tested operand) (omega arith) (tests-word (codes "not"))
      (agrees-word (codes "in") (agrees-in_list operand true) (agrees-word (codes "between") (agrees-between operand true) (agrees-refuse 0 [] membership_tail) refl) refl)
      (agrees-word (codes "in") (agrees-in_list operand false) (agrees-word (codes "between") (agrees-between operand false) (agrees-pure operand membership_tail) refl) refl)
      refl) refl)

  agrees-comparison : Agrees S (suc n) (spec.comparison deeper) (expr.comparison nested) 1 signed_heads comparison_tail
  unfolding spec.comparison expr.comparison
  agrees-comparison = agrees-fewer 1 (omega arith) (agrees-bind agrees-membership (λ left.
      agrees-taken (λ found. goes_on found (λ op. spec.membership deeper >>= (λ right. pure (e.Comparison op left right))) left) (omega arith) stands-comparison
      (λ op. agrees-bind agrees-membership (λ right. agrees-pure (e.Comparison op left right) comparison_tail) refl)
      (agrees-pure left comparison_tail) refl) refl)

  agrees-null_test : Agrees S (suc n) (spec.null_test deeper) (expr.null_test nested) 1 signed_heads negation_tail
  unfolding spec.null_test expr.null_test
  agrees-null_test = agrees-fewer 1 (omega arith) (agrees-bind agrees-comparison (λ operand.
      agrees-word (codes "is")
      (agrees-bind (agrees-said "not") (λ is_not. agrees-bind (agrees-expect_word (codes "null")) (λ u. agrees-pure (e.IsNull operand is_not) negation_tail) refl) refl)
      (agrees-pure operand negation_tail) refl) refl)

  -- ---- logic

  pub agrees-negation : Agrees S (suc n) (spec.negation deeper) (expr.negation nested) 1 expression_heads negation_tail
  unfolding spec.negation expr.negation is_reserved
  agrees-negation = agrees-word-deeper (codes "not") (agrees-bind negated (λ x. agrees-pure (e.Not x) negation_tail) refl) agrees-null_test refl

  agrees-conjunction : Agrees S (suc n) (spec.conjunction deeper) (expr.conjunction nested) 1 expression_heads conjunction_tail
  unfolding spec.conjunction expr.conjunction
  agrees-conjunction = agrees-operands e.And (codes "and") (expr.negation nested) conjunction_tail agrees-negation refl refl refl

  pub agrees-disjunction : Agrees S (suc n) (spec.disjunction deeper) (expr.disjunction nested) 1 expression_heads operators
  unfolding spec.disjunction expr.disjunction
  agrees-disjunction = agrees-operands e.Or (codes "or") (expr.conjunction nested) operators agrees-conjunction refl refl refl

-- ---- expressions in others

agrees-where : {S T : Type 0} {n : ℕ} {A : Type 0} {p : Parser A} {P : Line A} {k : ℕ} {heads : List Head} {tail : Barred} → (T → S) → Agrees S n p P k heads tail → Agrees T n p P k heads tail
agrees-where weaker all = record { sound = λ t ts a us e. all.sound (weaker t) ts a us e; complete = all.complete; starts = all.starts; takes = all.takes }

abbrev level_heads : Level → List Head
level_heads Whole = expression_heads
level_heads Negated = expression_heads
level_heads Signed = signed_heads

abbrev level_tail : Level → Barred
level_tail Whole = operators
level_tail Negated = negation_tail
level_tail Signed = primary_tail

-- nothing is read of no token, and what is spelt has one
agrees-none : {S T : Type 0} {n : ℕ} {p q : Parser Expr} {P : Line Expr} {heads : List Head} {tail : Barred} → ((ts : Tokens) → p ts ≡ None) → Agrees S n q P 1 heads tail → Agrees T 0 p P 1 heads tail
agrees-none none all = record {
  sound = λ t ts a us e. let empty = none ts in cc;
  complete = λ ts a us within spelt c. let some = all.takes ts a us spelt in absurd (omega arith);
  starts = all.starts;
  takes = all.takes;
}

-- what is nested no deeper than some number, and is read with enough turns
agrees-nested : (n d : ℕ) (level : Level) → Agrees (n ≤ d) n (spec.nested n level) (expr.within d level) 1 (level_heads level) (level_tail level)
unfolding spec.nested expr.within
agrees-nested zero zero level = agrees-refuse 1 (level_heads level) (level_tail level)
agrees-nested zero (suc d) Whole = agrees-none (λ ts. refl) (agrees-disjunction (spec.nested 0) (expr.within d) (agrees-nested 0 d Whole) (agrees-nested 0 d Negated) (agrees-nested 0 d Signed))
agrees-nested zero (suc d) Negated = agrees-none (λ ts. refl) (agrees-negation (spec.nested 0) (expr.within d) (agrees-nested 0 d Whole) (agrees-nested 0 d Negated) (agrees-nested 0 d Signed))
agrees-nested zero (suc d) Signed = agrees-none (λ ts. refl) (agrees-signed (spec.nested 0) (expr.within d) (agrees-nested 0 d Whole) (agrees-nested 0 d Negated) (agrees-nested 0 d Signed))
agrees-nested (suc n) zero level = record {
  sound = λ more ts a us e. absurd (omega arith);
  complete = λ ts a us within spelt c. absurd spelt;
  starts = λ ts a us spelt c. absurd spelt;
  takes = λ ts a us spelt. absurd spelt;
}
agrees-nested (suc n) (suc d) Whole = agrees-where (λ more. omega arith) (agrees-disjunction (spec.nested n) (expr.within d) (agrees-nested n d Whole) (agrees-nested n d Negated) (agrees-nested n d Signed))
agrees-nested (suc n) (suc d) Negated = agrees-where (λ more. omega arith) (agrees-negation (spec.nested n) (expr.within d) (agrees-nested n d Whole) (agrees-nested n d Negated) (agrees-nested n d Signed))
agrees-nested (suc n) (suc d) Signed = agrees-where (λ more. omega arith) (agrees-signed (spec.nested n) (expr.within d) (agrees-nested n d Whole) (agrees-nested n d Negated) (agrees-nested n d Signed))

-- what is spelt has a token
pub within-takes : (d : ℕ) (level : Level) (ts : Tokens) (x : Expr) (us : Tokens) → expr.within d level ts x us → 1 + length us ≤ length ts
within-takes d level = (agrees-nested 0 d level).takes

agrees-at : (n d : ℕ) → Agrees (n ≤ d) (suc n) (spec.disjunction (spec.nested n)) (expr.disjunction (expr.within d)) 1 expression_heads operators
agrees-at n d = agrees-disjunction (spec.nested n) (expr.within d) (agrees-nested n d Whole) (agrees-nested n d Negated) (agrees-nested n d Signed)

pub agrees-expression : {S : Type 0} {n : ℕ} → Agrees S n spec.expression grammar.expression 1 expression_heads operators
unfolding spec.expression
agrees-expression = record {
  sound = λ s ts x us e. spelt-by-line (length ts) ts x us ((agrees-at (length ts) (length ts)).sound (omega arith) ts x us e);
  complete = λ ts x us within spelt c. (agrees-at (length ts) (length ts)).complete ts x us (omega arith) (line-spelt ts x us spelt (length ts) (omega arith)) c;
  starts = λ ts x us spelt c. (agrees-at 0 (length ts)).starts ts x us (line-spelt ts x us spelt (length ts) (omega arith)) c;
  takes = λ ts x us spelt. (agrees-at 0 (length ts)).takes ts x us (line-spelt ts x us spelt (length ts) (omega arith));
}

ended-clear : (us : Tokens) → is_ended us ≡ true → clear operators us ≡ true
ended-clear [] e = refl
ended-clear (token.Word w ∷ us) e = same-or (has_word operators.words w) e
  where
    same-or : (b : Bool) → not b ≡ true → not (b || false) ≡ true
    same-or true q = q
    same-or false q = q
ended-clear (token.Sign s ∷ us) e = e
ended-clear (token.Quoted w ∷ us) e = refl
ended-clear (token.Number w ∷ us) e = refl
ended-clear (token.Text w ∷ us) e = refl
ended-clear (token.Param w ∷ us) e = refl
ended-clear (token.Backslash w ∷ us) e = refl

pub expression-spelt : (ts : Tokens) (x : Expr) (us : Tokens) → spec.expression ts ≡ Some (x, us) → grammar.expression ts x us
expression-spelt ts x us e = (agrees-expression {S = Unit {0}} {n = length ts}).sound tt ts x us e

-- an expression behind which no operator comes is the one that is read
pub expression-read : (ts : Tokens) (x : Expr) (us : Tokens) → grammar.expression ts x us → is_ended us ≡ true → spec.expression ts ≡ Some (x, us)
expression-read ts x us spelt e = (agrees-expression {S = Unit {0}} {n = length ts}).complete ts x us (omega arith) spelt (ended-clear us e)
