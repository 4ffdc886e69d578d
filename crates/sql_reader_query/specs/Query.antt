-- Queries.
use Rattle.std.specs.Prelude.{Bool, true, false, List, [], Option, Some, None, codes, if◌then◌else◌}
use Rattle.sql_tree.specs.declared.expr.Expr.{Expr}
use Rattle.sql_tree.specs.declared.names.ColumnRef.{ColumnRef}
use Rattle.sql_tree.specs.declared.select.Grouping.{Grouping}
use Rattle.sql_tree.specs.declared.select.OrderItem.{OrderItem}
use Rattle.sql_tree.specs.declared.select.Select.{Select}
use Rattle.sql_tree.specs.declared.select.SelectCore.{SelectCore}
use Rattle.sql_expr.specs.Reading.{Text, Parser, ◌>>=◌, ◌>>◌, ◌<$>◌, pure, eat_word, expect_word}
use Rattle.sql_expr.specs.Expressions.{expression}
use Rattle.sql_reader_query.specs.FromClause.{from}
use Rattle.sql_reader_query.specs.Limits.{limits}
use Rattle.sql_reader_query.specs.Lists.{listed}
use Rattle.sql_reader_query.specs.Names.{column}
use Rattle.sql_reader_query.specs.Outputs.{output}

-- whether DISTINCT is written; ALL changes nothing
unfoldable pub distinct : Parser Bool
distinct = do
  found ← eat_word (codes "distinct")
  if found then pure true else eat_word (codes "all") >> pure false

-- the condition behind the word, where that comes next
unfoldable pub condition : Text → Parser (Option Expr)
condition word = do
  found ← eat_word word
  if found then Some <$> expression else pure None

-- up to and with WHERE
unfoldable pub core : Parser SelectCore
core = do
  unique ← distinct
  outputs ← listed output
  chains ← from
  filter ← condition (codes "where")
  pure (record { distinct = unique; outputs = outputs; from = chains; condition = filter })

unfoldable pub group_keys : Parser (List ColumnRef)
group_keys = do
  found ← eat_word (codes "group")
  if found then expect_word (codes "by") >> listed column else pure []

unfoldable pub grouping : Parser Grouping
grouping = do
  keys ← group_keys
  having ← condition (codes "having")
  pure (record { keys = keys; having = having })

-- whether DESC is written; ASC changes nothing
unfoldable pub descending : Parser Bool
descending = do
  found ← eat_word (codes "desc")
  if found then pure true else eat_word (codes "asc") >> pure false

-- whether nulls come first: as the key descends, unless that is said
unfoldable pub nulls_first : Bool → Parser Bool
nulls_first falls = do
  said ← eat_word (codes "nulls")
  if said then (do
    first ← eat_word (codes "first")
    if first then pure true else expect_word (codes "last") >> pure false) else pure falls

unfoldable pub key : Parser OrderItem
key = do
  expr ← expression
  falls ← descending
  first ← nulls_first falls
  pure (record { expr = expr; descending = falls; nulls_first = first })

unfoldable pub order : Parser (List OrderItem)
order = do
  found ← eat_word (codes "order")
  if found then expect_word (codes "by") >> listed key else pure []

-- behind SELECT
unfoldable pub selection : Parser Select
selection = do
  c ← core
  g ← grouping
  keys ← order
  cut ← limits
  pure (record { core = c; grouping = g; order = keys; limits = cut })

unfoldable pub select : Parser Select
select = expect_word (codes "select") >> selection
