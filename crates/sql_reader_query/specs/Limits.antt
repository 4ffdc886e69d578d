-- How many rows of a query are given.
use Rattle.std.specs.Prelude.{Option, Some, None, codes, if◌then◌else◌}
use Rattle.sql_tree.specs.declared.select.Limits.{Limits}
use Rattle.sql_tree.specs.declared.select.RowCount.{RowCount}
use Rattle.sql_tree.specs.declared.select.RowCount.TheVariants.{Number, Param, Null}
use Rattle.sql_expr.specs.Reading.{Text, Parser, ◌>>=◌, ◌<$>◌, pure, taken, eat_word}
use Rattle.sql_expr.specs.Literals.{numeral, param_of}

abbrev pub param_or_number : Option Text → Parser RowCount
param_or_number (Some digits) = pure (Param digits)
param_or_number None = Number <$> numeral

unfoldable pub count : Parser RowCount
count = do
  null ← eat_word (codes "null")
  if null then pure Null else taken param_of >>= param_or_number

-- behind LIMIT
unfoldable pub limit_count : Parser RowCount
limit_count = do
  all ← eat_word (codes "all")
  if all then pure Null else count

unfoldable pub limit : Parser (Option RowCount)
limit = do
  found ← eat_word (codes "limit")
  if found then Some <$> limit_count else pure None

unfoldable pub offset : Parser (Option RowCount)
offset = do
  found ← eat_word (codes "offset")
  if found then Some <$> count else pure None

-- in either order
unfoldable pub limits : Parser Limits
limits = do
  first ← eat_word (codes "limit")
  if first then (do
    most ← limit_count
    skipped ← offset
    pure (record { limit = Some most; offset = skipped })) else (do
      skipped ← offset
      most ← limit
      pure (record { limit = most; offset = skipped }))
