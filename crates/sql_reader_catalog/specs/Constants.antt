-- Constants that a command gives, with their sign.
use Rattle.std.specs.Prelude.{Option, Some, None}
use Rattle.sql_tree.specs.declared.expr.Literal.{Literal}
use Rattle.sql_tree.specs.declared.expr.Literal.TheVariants as literal
use Rattle.sql_expr.specs.Reading.{Parser, ◌>>=◌, ◌<$>◌, pure, taken}
use Rattle.sql_expr.specs.Literals.{literal_of, numeral}

-- a constant without a sign, and else a number with one
abbrev pub literal_or_numeral : Option Literal → Parser Literal
literal_or_numeral (Some l) = pure l
literal_or_numeral None = literal.Number <$> numeral

-- `[-] number | string | NULL | TRUE | FALSE`
unfoldable pub constant : Parser Literal
constant = taken literal_of >>= literal_or_numeral
