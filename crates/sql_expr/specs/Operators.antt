-- The operators that stand between two operands.
use Rattle.std.specs.Prelude.{Option, Some, None}
use Rattle.sql_tokens.specs.declared.token.Token.{Token}
use Rattle.sql_tokens.specs.declared.token.Token.TheVariants as token
use Rattle.sql_tokens.specs.declared.token.Sign.TheVariants as sign
use Rattle.sql_tree.specs.declared.expr.Arithmetic.{Arithmetic}
use Rattle.sql_tree.specs.declared.expr.Arithmetic.TheVariants as arithmetic
use Rattle.sql_tree.specs.declared.expr.Comparison.{Comparison}
use Rattle.sql_tree.specs.declared.expr.Comparison.TheVariants as comparison

abbrev pub comparison_of : Token → Option Comparison
comparison_of (token.Sign sign.Equal) = Some comparison.Equal
comparison_of (token.Sign sign.NotEqual) = Some comparison.NotEqual
comparison_of (token.Sign sign.Less) = Some comparison.Less
comparison_of (token.Sign sign.LessEqual) = Some comparison.LessEqual
comparison_of (token.Sign sign.Greater) = Some comparison.Greater
comparison_of (token.Sign sign.GreaterEqual) = Some comparison.GreaterEqual
comparison_of _ = None

abbrev pub additive_of : Token → Option Arithmetic
additive_of (token.Sign sign.Plus) = Some arithmetic.Add
additive_of (token.Sign sign.Minus) = Some arithmetic.Subtract
additive_of _ = None

abbrev pub multiplicative_of : Token → Option Arithmetic
multiplicative_of (token.Sign sign.Star) = Some arithmetic.Multiply
multiplicative_of (token.Sign sign.Slash) = Some arithmetic.Divide
multiplicative_of _ = None
