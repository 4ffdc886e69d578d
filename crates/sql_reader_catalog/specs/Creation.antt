-- CREATE, behind that word.
use Rattle.std.specs.Prelude.{Bool, false, true, codes, if◌then◌else◌}
use Rattle.sql_tree.specs.declared.catalog.IndexTree.{IndexTree}
use Rattle.sql_tree.specs.declared.catalog.SchemaCommand.TheVariants as schema
use Rattle.sql_tree.specs.declared.catalog.ViewTree.{ViewTree}
use Rattle.sql_tree.specs.declared.command.Command.{Command}
use Rattle.sql_tree.specs.declared.command.Command.TheVariants as command
use Rattle.sql_tree.specs.declared.statement.Statement.TheVariants as statement
use Rattle.sql_expr.specs.Reading.{Parser, ◌>>=◌, ◌>>◌, ◌<$>◌, pure, eat_word, expect_word}
use Rattle.sql_expr.specs.Names.{name}
use Rattle.sql_reader_query.specs.Names.{relation, parenthesized_names, optional_names}
use Rattle.sql_reader_query.specs.Query.{select}
use Rattle.sql_reader_catalog.specs.Tables.{table, temp_table}

-- `TEMP | TEMPORARY`, if one of them comes next
abbrev pub eat_temp : Parser Bool
eat_temp = do
  short ← eat_word (codes "temp")
  if short then pure true else eat_word (codes "temporary")

-- `name ON relation (columns)`
unfoldable pub index : Bool → Parser IndexTree
index unique = do
  index_name ← name
  expect_word (codes "on")
  indexed ← relation
  columns ← parenthesized_names
  pure (record { name = index_name; unique = unique; table = indexed; columns = columns })

-- `[OR REPLACE]`
unfoldable pub or_replace : Parser Bool
or_replace = do
  said ← eat_word (codes "or")
  if said then expect_word (codes "replace") >> pure true else pure false

-- `[OR REPLACE] VIEW relation [(columns)] AS select`
unfoldable pub view : Parser ViewTree
view = do
  replace ← or_replace
  expect_word (codes "view")
  view_name ← relation
  columns ← optional_names
  expect_word (codes "as")
  query ← select
  pure (record { name = view_name; replace = replace; columns = columns; query = statement.ViewSelect query })

unfoldable pub create : Parser Command
create = do
  schema_next ← eat_word (codes "schema")
  if schema_next then (λ made. command.Schema (schema.Create made)) <$> name else (do
    table_next ← eat_word (codes "table")
    if table_next then command.CreateTable <$> table else (do
      temp_next ← eat_temp
      if temp_next then expect_word (codes "table") >> (command.CreateTempTable <$> temp_table) else (do
        unique_next ← eat_word (codes "unique")
        if unique_next then expect_word (codes "index") >> (command.CreateIndex <$> index true) else (do
          index_next ← eat_word (codes "index")
          if index_next then command.CreateIndex <$> index false else command.CreateView <$> view))))
