-- Row changes.
use Rattle.std.specs.Prelude.{Bool, List, drop, Option, None, codes, ◌&&◌, if◌then◌else◌}
use Rattle.sql_tokens.specs.declared.token.Sign.TheVariants as sign
use Rattle.sql_tree.specs.declared.command.Command.{Command}
use Rattle.sql_tree.specs.declared.command.Command.TheVariants as command
use Rattle.sql_tree.specs.declared.expr.Expr.{Expr}
use Rattle.sql_tree.specs.declared.rows.Assignment.{Assignment}
use Rattle.sql_tree.specs.declared.rows.InsertTree.{InsertTree}
use Rattle.sql_tree.specs.declared.rows.NewValue.{NewValue}
use Rattle.sql_tree.specs.declared.rows.NewValue.TheVariants as value_of
use Rattle.sql_tree.specs.declared.select.OutputItem.{OutputItem}
use Rattle.sql_tree.specs.declared.statement.PositionedTree.{PositionedTree}
use Rattle.sql_tree.specs.declared.statement.Statement.{Statement}
use Rattle.sql_tree.specs.declared.statement.Statement.TheVariants as statement
use Rattle.sql_reader_query.specs.declared.changes.Change.{Change}
use Rattle.sql_reader_query.specs.declared.changes.Change.TheVariants.{Update, Delete}
use Rattle.sql_reader_query.specs.declared.changes.InsertTarget.{InsertTarget}
use Rattle.sql_expr.specs.Reading.{Text, Tokens, Parser, ◌>>=◌, ◌>>◌, ◌<$>◌, pure, refuse, eat_word, expect_word, expect_sign, sees_word}
use Rattle.sql_expr.specs.Expressions.{expression}
use Rattle.sql_expr.specs.Names.{name}
use Rattle.sql_reader_query.specs.Lists.{listed, looking}
use Rattle.sql_reader_query.specs.Names.{relation, optional_names}
use Rattle.sql_reader_query.specs.Outputs.{returning}
use Rattle.sql_reader_query.specs.Query.{condition}

unfoldable pub target : Parser InsertTarget
target = do
  expect_word (codes "into")
  table ← relation
  columns ← optional_names
  pure (record { table = table; columns = columns })

unfoldable pub value : Parser NewValue
value = do
  default ← eat_word (codes "default")
  if default then pure value_of.Default else value_of.Expr <$> expression

unfoldable pub row : Parser (List NewValue)
row = do
  expect_sign sign.LeftParen
  values ← listed value
  expect_sign sign.RightParen
  pure values

-- behind INSERT
unfoldable pub insertion : Parser InsertTree
insertion = do
  into ← target
  expect_word (codes "values")
  rows ← listed row
  given ← returning
  pure (record { table = into.table; columns = into.columns; rows = rows; returning = given })

unfoldable pub assignment : Parser Assignment
assignment = do
  column ← name
  expect_sign sign.Equal
  new ← value
  pure (record { column = column; value = new })

-- behind UPDATE
unfoldable pub updated : Parser Change
updated = do
  table ← relation
  expect_word (codes "set")
  assignments ← listed assignment
  pure (Update table assignments)

-- behind DELETE
unfoldable pub deleted : Parser Change
deleted = expect_word (codes "from") >> Delete <$> relation

unfoldable pub change : Parser Change
change = do
  update ← eat_word (codes "update")
  if update then updated else (do
    delete ← eat_word (codes "delete")
    if delete then deleted else refuse)

abbrev pub statement_of : Change → Option Expr → List OutputItem → Statement
statement_of (Update table assignments) filter given =
    statement.Update (record { table = table; assignments = assignments; condition = filter; returning = given })
statement_of (Delete table) filter given =
    statement.Delete (record { table = table; condition = filter; returning = given })

-- `[WHERE expression] returning`, behind a change
unfoldable pub searched : Change → Parser Statement
searched c = do
  filter ← condition (codes "where")
  given ← returning
  pure (statement_of c filter given)

-- WHERE CURRENT OF comes next
unfoldable pub sees_position : Tokens → Bool
sees_position ts = sees_word (codes "where") ts && sees_word (codes "current") (drop 1 ts) && sees_word (codes "of") (drop 1 (drop 1 ts))

-- `WHERE CURRENT OF name`
unfoldable pub position : Parser Text
position = do
  expect_word (codes "where")
  expect_word (codes "current")
  expect_word (codes "of")
  name

-- `position returning`, behind a change
unfoldable pub positioned : Change → Parser PositionedTree
positioned c = do
  cursor ← position
  given ← returning
  pure (record { statement = statement_of c None given; cursor = cursor })

unfoldable pub change_command : Change → Parser Command
change_command c = do
  found ← looking sees_position
  if found then command.Positioned <$> positioned c else command.Statement <$> searched c
