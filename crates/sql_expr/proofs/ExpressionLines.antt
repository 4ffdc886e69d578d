-- The lines of expressions in the order in which they are read, over the lines of what is nested in them.
use Rattle.std.specs.Prelude.{ℕ, zero, suc, Bool, true, false, List, [], ◌∷◌, Some, None}
use Rattle.sql_tokens.specs.declared.token.Sign.TheVariants as sign
use Rattle.sql_tree.specs.declared.expr.{Arithmetic.Arithmetic, Expr.Expr}
use Rattle.sql_tree.specs.declared.expr.Expr.TheVariants as e
use Rattle.sql_expr.specs.declared.grammar.Level.{Level, TheVariants.Whole, TheVariants.Negated, TheVariants.Signed}
use Rattle.sql_expr.specs.Literals.{negative_number}
use Rattle.sql_expr.specs.Lines.{Text, Line, ◌>>=◌, ◌>>◌, ◌<$>◌, ◌or◌, key, mark, name, number, gives, unless, said, many}
use Rattle.sql_expr.specs.Grammar.{comparison_operator, additive, multiplicative, operation}
use Rattle.sql_expr.proofs.LineWords.{nowhere, separated, list}
use Rattle.sql_expr.proofs.TokenKinds.{constant}

-- ---- arithmetic: operators with their right operands, grouped to the left

abbrev pub grouped : Expr → List (Arithmetic × Expr) → Expr
grouped left [] = left
grouped left (next ∷ more) = grouped (e.Arithmetic next.0 left next.1) more

-- an operator with its right operand
abbrev pub applied : Line Arithmetic → Line Expr → Line (Arithmetic × Expr)
applied operator operand = do op ← operator; right ← operand; gives (op, right)

abbrev pub chain : Line Arithmetic → Line Expr → Line Expr
chain operator operand = do first ← operand; others ← many (applied operator operand); gives (grouped first others)

-- behind a name
abbrev pub columned : Text → Line Expr
columned first = mark sign.Dot >> (do second ← name; gives (e.Column (record { item = Some first; name = second })))
    or gives (e.Column (record { item = None; name = first }))

module _ (nested : Level → Line Expr) where
  -- behind a parenthesis, and behind a function's name with one
  abbrev pub parenthesized : Line Expr
  parenthesized = do inner ← nested Whole; mark sign.RightParen; gives inner

  abbrev pub called : Text → Line Expr
  called function = mark sign.Star >> (mark sign.RightParen >> gives (e.CallStar function))
      or (do argument ← nested Whole; mark sign.RightParen; gives (e.Call function argument))

  abbrev pub named : Line Expr
  named = do first ← name; mark sign.LeftParen >> called first or columned first

  unfoldable pub primary : Line Expr
  primary = mark sign.LeftParen >> parenthesized or (constant >>= (λ x. gives x)) or named

  unfoldable pub signed : Line Expr
  signed = mark sign.Minus >> ((do digits ← number; gives (negative_number digits)) or unless number >> e.Minus <$> nested Signed) or primary

  unfoldable pub product : Line Expr
  product = chain multiplicative signed

  unfoldable pub sum : Line Expr
  sum = chain additive product

  unfoldable pub in_list : Expr → Bool → Line Expr
  in_list operand negated = do mark sign.LeftParen; values ← list (nested Whole); mark sign.RightParen; gives (e.InList operand values negated)

  unfoldable pub between : Expr → Bool → Line Expr
  between operand negated = do low ← sum; key "and"; high ← sum; gives (e.Between operand low high negated)

  -- what may stand behind an operand, and behind its NOT; else the other line
  abbrev pub tested : Expr → Bool → Line Expr → Line Expr
  tested operand negated other = key "in" >> in_list operand negated or key "between" >> between operand negated or other

  unfoldable pub membership : Line Expr
  membership = do operand ← sum; key "not" >> tested operand true nowhere or tested operand false (gives operand)

  unfoldable pub comparison : Line Expr
  comparison = do
    left ← membership
    (do op ← comparison_operator; right ← membership; gives (e.Comparison op left right)) or gives left

  unfoldable pub null_test : Line Expr
  null_test = do
    operand ← comparison
    key "is" >> (do negated ← said "not"; key "null"; gives (e.IsNull operand negated)) or gives operand

  unfoldable pub negation : Line Expr
  negation = key "not" >> e.Not <$> nested Negated or null_test

  unfoldable pub conjunction : Line Expr
  conjunction = operation e.And <$> separated (key "and") negation

  unfoldable pub disjunction : Line Expr
  disjunction = operation e.Or <$> separated (key "or") conjunction

-- an expression at a level, in which others are nested no deeper than the number
unfoldable pub within : ℕ → Level → Line Expr
within zero level = nowhere
within (suc depth) Whole = disjunction (within depth)
within (suc depth) Negated = negation (within depth)
within (suc depth) Signed = signed (within depth)
