-- Select lists, and what stands behind RETURNING.
use Rattle.std.specs.Prelude.{Bool, List, [], drop, Option, Some, codes, ◌&&◌, if◌then◌else◌}
use Rattle.sql_tokens.specs.declared.token.Sign.TheVariants as sign
use Rattle.sql_tree.specs.declared.select.OutputItem.{OutputItem}
use Rattle.sql_tree.specs.declared.select.OutputItem.TheVariants as output_item
use Rattle.sql_expr.specs.Reading.{Text, Tokens, Parser, ◌>>=◌, ◌>>◌, ◌<$>◌, pure, eat_word, eat_sign, expect_sign, sees_sign}
use Rattle.sql_expr.specs.Names.{name, given_name, sees_name}
use Rattle.sql_expr.specs.Expressions.{expression}
use Rattle.sql_reader_query.specs.Lists.{listed, looking}

-- `[[AS] name]`
unfoldable pub alias : Parser (Option Text)
alias = do
  announced ← eat_word (codes "as")
  if announced then Some <$> name else given_name

-- `name . *` comes next
unfoldable pub sees_all_of : Tokens → Bool
sees_all_of ts = sees_name ts && sees_sign sign.Dot (drop 1 ts) && sees_sign sign.Star (drop 1 (drop 1 ts))

unfoldable pub all_of : Parser OutputItem
all_of = do
  item ← name
  expect_sign sign.Dot
  expect_sign sign.Star
  pure (output_item.AllOf item)

-- `expression [[AS] name]`
unfoldable pub computed : Parser OutputItem
computed = do
  expr ← expression
  named ← alias
  pure (output_item.Expr expr named)

unfoldable pub output : Parser OutputItem
output = do
  star ← eat_sign sign.Star
  if star then pure output_item.All else (do
    found ← looking sees_all_of
    if found then all_of else computed)

unfoldable pub returning : Parser (List OutputItem)
returning = do
  found ← eat_word (codes "returning")
  if found then listed output else pure []
