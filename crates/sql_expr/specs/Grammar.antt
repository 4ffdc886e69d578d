-- The grammar of expressions: which tokens spell one. Each case of `Spells` is an alternative of a rule.
use Rattle.std.specs.Prelude.{◌≡◌, ◌⊎◌, ◌<◌, Bool, true, false, List, [], ◌∷◌, length, Option, Some, None}
use Rattle.sql_tokens.specs.declared.token.Sign.TheVariants as sign
use Rattle.sql_tree.specs.declared.names.ColumnRef.{ColumnRef}
use Rattle.sql_tree.specs.declared.expr.{Arithmetic.Arithmetic, Comparison.Comparison, Expr.Expr, Literal.Literal}
use Rattle.sql_tree.specs.declared.expr.Arithmetic.TheVariants.{Add, Subtract, Multiply, Divide}
use Rattle.sql_tree.specs.declared.expr.Comparison.TheVariants.{Equal, NotEqual, Less, LessEqual, Greater, GreaterEqual}
use Rattle.sql_tree.specs.declared.expr.Expr.TheVariants as e
use Rattle.sql_tree.specs.declared.expr.Literal.TheVariants as literal_of
use Rattle.sql_expr.specs.Lines.{Text, Tokens, Line, ◌>>=◌, ◌>>◌, ◌<$>◌, ◌or◌, key, mark, name, number, string, parameter, gives, unless, said}

abbrev pub literal : Line Literal
literal = (λ digits. literal_of.Number (record { negative = false; digits = digits })) <$> number or literal_of.Text <$> string
    or key "null" >> gives literal_of.Null or key "true" >> gives (literal_of.Bool true) or key "false" >> gives (literal_of.Bool false)

-- a name, with the name that it belongs to where one is written
unfoldable pub qualified : Line (Option Text × Text)
qualified = (do first ← name; mark sign.Dot; second ← name; gives (Some first, second)) or (λ only. (None, only)) <$> name

unfoldable pub column : Line ColumnRef
column = (λ q. record { item = q.0; name = q.1 }) <$> qualified

-- ---- operators

abbrev pub comparison_operator : Line Comparison
comparison_operator = mark sign.Equal >> gives Equal or mark sign.NotEqual >> gives NotEqual
    or mark sign.Less >> gives Less or mark sign.LessEqual >> gives LessEqual
    or mark sign.Greater >> gives Greater or mark sign.GreaterEqual >> gives GreaterEqual

abbrev pub additive : Line Arithmetic
additive = mark sign.Plus >> gives Add or mark sign.Minus >> gives Subtract

abbrev pub multiplicative : Line Arithmetic
multiplicative = mark sign.Star >> gives Multiply or mark sign.Slash >> gives Divide

-- an operand alone stands for itself, and more than one for the operation on them
abbrev pub operation : (List Expr → Expr) → List Expr → Expr
operation f [] = f []
operation f (x ∷ []) = x
operation f (x ∷ y ∷ more) = f (x ∷ y ∷ more)

-- ---- the rules, those of one expression and those of lists

pub data Rule : Type 0 where
  primary : Rule
  signed : Rule
  product : Rule
  sum : Rule
  expressions : Rule
  membership : Rule
  comparison : Rule
  null_test : Rule
  negation : Rule
  negations : Rule
  conjunction : Rule
  conjunctions : Rule
  disjunction : Rule

abbrev pub Meaning : Rule → Type 0
Meaning expressions = List Expr
Meaning negations = List Expr
Meaning conjunctions = List Expr
Meaning _ = Expr

pub data Spells : (rule : Rule) → Tokens → Meaning rule → Tokens → Type 0 where
  plain_literal : {ts us : Tokens} {value : Literal} {x : Expr} → literal ts value us → x ≡ e.Literal value → Spells primary ts x us
  param : {ts us : Tokens} {digits : Text} {x : Expr} → parameter ts digits us → x ≡ e.Param digits → Spells primary ts x us
  column_reference : {ts us : Tokens} {c : ColumnRef} {x : Expr} → column ts c us → x ≡ e.Column c → Spells primary ts x us
  call_star : {ts a b c us : Tokens} {function : Text} {x : Expr}
      → name ts function a → mark sign.LeftParen a tt b → mark sign.Star b tt c → mark sign.RightParen c tt us → x ≡ e.CallStar function → Spells primary ts x us
  call : {ts a b c us : Tokens} {function : Text} {x y : Expr}
      → name ts function a → mark sign.LeftParen a tt b → Spells disjunction b x c → mark sign.RightParen c tt us → y ≡ e.Call function x → Spells primary ts y us
  parenthesized : {ts a b us : Tokens} {x y : Expr}
      → mark sign.LeftParen ts tt a → Spells disjunction a x b → mark sign.RightParen b tt us → y ≡ x → Spells primary ts y us
  negative_literal : {ts a us : Tokens} {digits : Text} {x : Expr}
      → mark sign.Minus ts tt a → number a digits us → x ≡ e.Literal (literal_of.Number (record { negative = true; digits = digits })) → Spells signed ts x us
  minus : {ts a b us : Tokens} {x y : Expr} → mark sign.Minus ts tt a → unless number a tt b → Spells signed b x us → y ≡ e.Minus x → Spells signed ts y us
  only_primary : {ts us : Tokens} {x : Expr} → Spells primary ts x us → Spells signed ts x us
  only_signed : {ts us : Tokens} {x : Expr} → Spells signed ts x us → Spells product ts x us
  multiplied : {ts a b us : Tokens} {x y z : Expr} {op : Arithmetic}
      → Spells product ts x a → multiplicative a op b → Spells signed b y us → z ≡ e.Arithmetic op x y → Spells product ts z us
  only_product : {ts us : Tokens} {x : Expr} → Spells product ts x us → Spells sum ts x us
  added : {ts a b us : Tokens} {x y z : Expr} {op : Arithmetic}
      → Spells sum ts x a → additive a op b → Spells product b y us → z ≡ e.Arithmetic op x y → Spells sum ts z us
  last_expression : {ts us : Tokens} {x : Expr} {xs : List Expr} → Spells disjunction ts x us → xs ≡ x ∷ [] → Spells expressions ts xs us
  next_expression : {ts a b us : Tokens} {x : Expr} {xs ys : List Expr}
      → Spells disjunction ts x a → mark sign.Comma a tt b → Spells expressions b xs us → ys ≡ x ∷ xs → Spells expressions ts ys us
  only_sum : {ts us : Tokens} {x : Expr} → Spells sum ts x us → Spells membership ts x us
  in_list : {ts a b c d f us : Tokens} {x y : Expr} {xs : List Expr} {is_not : Bool}
      → Spells sum ts x a → said "not" a is_not b → key "in" b tt c → mark sign.LeftParen c tt d → Spells expressions d xs f → mark sign.RightParen f tt us
      → y ≡ e.InList x xs is_not → Spells membership ts y us
  between : {ts a b c d f us : Tokens} {x y low high : Expr} {is_not : Bool}
      → Spells sum ts x a → said "not" a is_not b → key "between" b tt c → Spells sum c low d → key "and" d tt f → Spells sum f high us
      → y ≡ e.Between x low high is_not → Spells membership ts y us
  only_membership : {ts us : Tokens} {x : Expr} → Spells membership ts x us → Spells comparison ts x us
  compared : {ts a b us : Tokens} {x y z : Expr} {op : Comparison}
      → Spells membership ts x a → comparison_operator a op b → Spells membership b y us → z ≡ e.Comparison op x y → Spells comparison ts z us
  only_comparison : {ts us : Tokens} {x : Expr} → Spells comparison ts x us → Spells null_test ts x us
  null_tested : {ts a b c us : Tokens} {x y : Expr} {is_not : Bool}
      → Spells comparison ts x a → key "is" a tt b → said "not" b is_not c → key "null" c tt us → y ≡ e.IsNull x is_not → Spells null_test ts y us
  negated : {ts a us : Tokens} {x y : Expr} → key "not" ts tt a → Spells negation a x us → y ≡ e.Not x → Spells negation ts y us
  only_null_test : {ts us : Tokens} {x : Expr} → Spells null_test ts x us → Spells negation ts x us
  last_negation : {ts us : Tokens} {x : Expr} {xs : List Expr} → Spells negation ts x us → xs ≡ x ∷ [] → Spells negations ts xs us
  next_negation : {ts a b us : Tokens} {x : Expr} {xs ys : List Expr}
      → Spells negation ts x a → key "and" a tt b → Spells negations b xs us → ys ≡ x ∷ xs → Spells negations ts ys us
  conjoined : {ts us : Tokens} {x : Expr} {xs : List Expr} → Spells negations ts xs us → x ≡ operation e.And xs → Spells conjunction ts x us
  last_conjunction : {ts us : Tokens} {x : Expr} {xs : List Expr} → Spells conjunction ts x us → xs ≡ x ∷ [] → Spells conjunctions ts xs us
  next_conjunction : {ts a b us : Tokens} {x : Expr} {xs ys : List Expr}
      → Spells conjunction ts x a → key "or" a tt b → Spells conjunctions b xs us → ys ≡ x ∷ xs → Spells conjunctions ts ys us
  disjoined : {ts us : Tokens} {x : Expr} {xs : List Expr} → Spells conjunctions ts xs us → x ≡ operation e.Or xs → Spells disjunction ts x us

unfoldable pub expression : Line Expr
expression ts x us = Spells disjunction ts x us

-- the longest expression that begins the tokens, and no other is as long
abbrev pub longest : Line Expr
longest ts x us = expression ts x us × ((y : Expr) (vs : Tokens) → expression ts y vs → (length us < length vs) ⊎ ((y ≡ x) × (vs ≡ us)))
