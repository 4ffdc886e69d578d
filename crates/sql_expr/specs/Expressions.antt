-- Expressions, a reading function for each rule of their grammar.
use Rattle.std.specs.Prelude.{ℕ, zero, suc, Bool, List, [], ◌∷◌, length, Option, Some, None, codes, if◌then◌else◌}
use Rattle.sql_tokens.specs.declared.token.Sign.TheVariants as sign
use Rattle.sql_tree.specs.declared.expr.Arithmetic.{Arithmetic}
use Rattle.sql_tree.specs.declared.expr.Expr.{Expr}
use Rattle.sql_tree.specs.declared.expr.Expr.TheVariants as e
use Rattle.sql_expr.specs.declared.grammar.Level.{Level}
use Rattle.sql_expr.specs.declared.grammar.Level.TheVariants.{Whole, Negated, Signed}
use Rattle.sql_expr.specs.Reading.{Text, Parser, ◌>>=◌, ◌>>◌, ◌<$>◌, pure, refuse, taken, eat_word, eat_sign, expect_word, expect_sign, separated, separated_from, goes_on}
unfoldable pub use Rattle.sql_expr.specs.Literals.{constant_of, constant_of_literal, negative_number}
use Rattle.sql_expr.specs.Literals.{digits_of}
use Rattle.sql_expr.specs.Names.{name}
use Rattle.sql_expr.specs.Operators.{comparison_of, additive_of, multiplicative_of}

-- `name [. name]` behind the first name
unfoldable pub column : Text → Parser Expr
column first = do
  dotted ← eat_sign sign.Dot
  if dotted then (λ second. e.Column (record { item = Some first; name = second })) <$> name
      else pure (e.Column (record { item = None; name = first }))

-- `{operator operand}` behind a first operand, grouped to the left
unfoldable pub grouped_from : Parser (Option Arithmetic) → Parser Expr → ℕ → Expr → Parser Expr
grouped_from operator operand zero left = pure left
grouped_from operator operand (suc n) left = do
  found ← operator
  goes_on found (λ op. operand >>= (λ right. grouped_from operator operand n (e.Arithmetic op left right))) left

abbrev pub grouped : Parser (Option Arithmetic) → Parser Expr → Expr → Parser Expr
grouped operator operand left = λ ts. grouped_from operator operand (length ts) left ts

-- The reading function of nested expressions stands for the rules of the grammar that lead back up.
module _ (deeper : Level → Parser Expr) where
  -- behind `(`
  unfoldable pub parenthesized : Parser Expr
  parenthesized = do
    inner ← deeper Whole
    expect_sign sign.RightParen
    pure inner

  -- behind `name (`
  unfoldable pub call : Text → Parser Expr
  call function = do
    star ← eat_sign sign.Star
    if star then expect_sign sign.RightParen >> pure (e.CallStar function) else (do
      argument ← deeper Whole
      expect_sign sign.RightParen
      pure (e.Call function argument))

  unfoldable pub named : Parser Expr
  named = do
    first ← name
    called ← eat_sign sign.LeftParen
    if called then call first else column first

  abbrev pub constant_or_named : Option Expr → Parser Expr
  constant_or_named (Some constant) = pure constant
  constant_or_named None = named

  unfoldable pub primary : Parser Expr
  primary = do
    opened ← eat_sign sign.LeftParen
    if opened then parenthesized else taken constant_of >>= constant_or_named

  -- behind `-`
  abbrev pub negative : Option Text → Parser Expr
  negative (Some digits) = pure (negative_number digits)
  negative None = e.Minus <$> deeper Signed

  unfoldable pub signed : Parser Expr
  signed = do
    minus ← eat_sign sign.Minus
    if minus then taken digits_of >>= negative else primary

  unfoldable pub product : Parser Expr
  product = signed >>= grouped (taken multiplicative_of) signed

  unfoldable pub sum : Parser Expr
  sum = product >>= grouped (taken additive_of) product

  abbrev pub values : Parser (List Expr)
  values = separated (eat_sign sign.Comma) (deeper Whole)

  -- behind IN
  unfoldable pub in_list : Expr → Bool → Parser Expr
  in_list operand negated = do
    expect_sign sign.LeftParen
    listed ← values
    expect_sign sign.RightParen
    pure (e.InList operand listed negated)

  -- behind BETWEEN
  unfoldable pub between : Expr → Bool → Parser Expr
  between operand negated = do
    low ← sum
    expect_word (codes "and")
    high ← sum
    pure (e.Between operand low high negated)

  unfoldable pub membership : Parser Expr
  membership = do
    operand ← sum
    negated ← eat_word (codes "not")
    listed ← eat_word (codes "in")
    if listed then in_list operand negated else (do
      ranged ← eat_word (codes "between")
      if ranged then between operand negated else (if negated then refuse else pure operand))

  unfoldable pub comparison : Parser Expr
  comparison = do
    left ← membership
    found ← taken comparison_of
    goes_on found (λ op. e.Comparison op left <$> membership) left

  unfoldable pub null_test : Parser Expr
  null_test = do
    operand ← comparison
    found ← eat_word (codes "is")
    if found then (do
      negated ← eat_word (codes "not")
      expect_word (codes "null")
      pure (e.IsNull operand negated)) else pure operand

  unfoldable pub negation : Parser Expr
  negation = do
    found ← eat_word (codes "not")
    if found then e.Not <$> deeper Negated else null_test

  -- behind the first AND
  abbrev pub conjuncts : Expr → Parser (List Expr)
  conjuncts first = λ ts. separated_from (eat_word (codes "and")) negation (length ts) (first ∷ []) ts

  unfoldable pub conjunction : Parser Expr
  conjunction = do
    first ← negation
    more ← eat_word (codes "and")
    if more then e.And <$> conjuncts first else pure first

  -- behind the first OR
  abbrev pub disjuncts : Expr → Parser (List Expr)
  disjuncts first = λ ts. separated_from (eat_word (codes "or")) conjunction (length ts) (first ∷ []) ts

  unfoldable pub disjunction : Parser Expr
  disjunction = do
    first ← conjunction
    more ← eat_word (codes "or")
    if more then e.Or <$> disjuncts first else pure first

-- an expression at a rule of the grammar, within which others are nested no deeper than the number
unfoldable pub nested : ℕ → Level → Parser Expr
nested zero level = refuse
nested (suc depth) Whole = disjunction (nested depth)
nested (suc depth) Negated = negation (nested depth)
nested (suc depth) Signed = signed (nested depth)

-- An expression. Each nested one stands behind a token more, so the count of tokens is enough.
unfoldable pub expression : Parser Expr
expression = λ ts. disjunction (nested (length ts)) ts
