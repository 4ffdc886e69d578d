-- What stands behind FROM.
use Rattle.std.specs.Prelude.{ℕ, zero, suc, List, [], ◌∷◌, ◌++◌, length, Option, Some, None, codes, if◌then◌else◌}
use Rattle.sql_tree.specs.declared.select.FromChain.{FromChain}
use Rattle.sql_tree.specs.declared.select.FromItem.{FromItem}
use Rattle.sql_tree.specs.declared.select.Join.{Join}
use Rattle.sql_tree.specs.declared.select.Join.TheVariants.{Inner, Cross}
use Rattle.sql_expr.specs.Reading.{Parser, ◌>>=◌, ◌>>◌, ◌<$>◌, pure, eat_word, expect_word, goes_on}
use Rattle.sql_expr.specs.Expressions.{expression}
use Rattle.sql_reader_query.specs.Lists.{listed}
use Rattle.sql_reader_query.specs.Names.{relation}
use Rattle.sql_reader_query.specs.Outputs.{alias}

unfoldable pub item : Parser FromItem
item = do
  table ← relation
  named ← alias
  pure (record { relation = table; alias = named })

-- behind JOIN
unfoldable pub inner_join : Parser Join
inner_join = do
  joined ← item
  expect_word (codes "on")
  condition ← expression
  pure (Inner joined condition)

-- behind CROSS
unfoldable pub cross_join : Parser Join
cross_join = expect_word (codes "join") >> Cross <$> item

-- none where no further item comes next
unfoldable pub join : Parser (Option Join)
join = do
  crossed ← eat_word (codes "cross")
  if crossed then Some <$> cross_join else (do
    inner ← eat_word (codes "inner")
    if inner then expect_word (codes "join") >> Some <$> inner_join else (do
      joined ← eat_word (codes "join")
      if joined then Some <$> inner_join else pure None))

-- Each turn reads a token, so the count of tokens is enough.
unfoldable pub joins_from : ℕ → List Join → Parser (List Join)
joins_from zero found = pure found
joins_from (suc n) found = do
  next ← join
  goes_on next (λ j. joins_from n (found ++ j ∷ [])) found

unfoldable pub joins : Parser (List Join)
joins = λ ts. joins_from (length ts) [] ts

unfoldable pub chain : Parser FromChain
chain = do
  first ← item
  further ← joins
  pure (record { first = first; joins = further })

unfoldable pub from : Parser (List FromChain)
from = do
  found ← eat_word (codes "from")
  if found then listed chain else pure []
