-- ALTER, behind that word.
use Rattle.std.specs.Prelude.{false, codes, if◌then◌else◌}
use Rattle.sql_tree.specs.declared.catalog.AlterAction.{AlterAction}
use Rattle.sql_tree.specs.declared.catalog.AlterAction.TheVariants as action
use Rattle.sql_tree.specs.declared.catalog.SchemaCommand.{SchemaCommand}
use Rattle.sql_tree.specs.declared.catalog.SchemaCommand.TheVariants as schema
use Rattle.sql_tree.specs.declared.command.Command.{Command}
use Rattle.sql_tree.specs.declared.command.Command.TheVariants as command
use Rattle.sql_expr.specs.Reading.{Text, Parser, ◌>>=◌, ◌>>◌, ◌<$>◌, pure, eat_word, expect_word}
use Rattle.sql_expr.specs.Names.{name}
use Rattle.sql_reader_query.specs.Names.{relation}
use Rattle.sql_reader_catalog.specs.Columns.{column_def}
use Rattle.sql_reader_catalog.specs.Constants.{constant}
use Rattle.sql_reader_catalog.specs.Keywords.{skip_column_before_definition, skip_column_before_name, skip_column_before_change}

-- `TO name`
unfoldable pub renamed_to : Parser Text
renamed_to = expect_word (codes "to") >> name

-- `name RENAME TO name`
unfoldable pub renaming : Parser SchemaCommand
renaming = do
  old ← name
  expect_word (codes "rename")
  schema.Rename old <$> renamed_to

-- ---- a column's changes

unfoldable pub not_null : Parser (Unit {0})
not_null = expect_word (codes "not") >> expect_word (codes "null")

-- behind TYPE
unfoldable pub set_type : Text → Parser AlterAction
set_type column = action.SetType column <$> name

-- `DATA TYPE name | DEFAULT constant | NOT NULL`, behind SET
unfoldable pub set_part : Text → Parser AlterAction
set_part column = do
  data_next ← eat_word (codes "data")
  if data_next then expect_word (codes "type") >> set_type column else (do
    default_next ← eat_word (codes "default")
    if default_next then action.SetDefault column <$> constant else not_null >> pure (action.SetNotNull column))

-- `DEFAULT | NOT NULL`, behind DROP
unfoldable pub drop_part : Text → Parser AlterAction
drop_part column = do
  default_next ← eat_word (codes "default")
  if default_next then pure (action.DropDefault column) else not_null >> pure (action.DropNotNull column)

-- `[COLUMN] name (TYPE .. | SET .. | DROP ..)`
unfoldable pub alter_column : Parser AlterAction
alter_column = do
  skip_column_before_change
  column ← name
  type_next ← eat_word (codes "type")
  if type_next then set_type column else (do
    set_next ← eat_word (codes "set")
    if set_next then set_part column else expect_word (codes "drop") >> drop_part column)

-- `TO name | [COLUMN] name TO name`, behind RENAME
unfoldable pub rename : Parser AlterAction
rename = do
  whole ← eat_word (codes "to")
  if whole then action.RenameTo <$> name else (do
    skip_column_before_name
    column ← name
    action.RenameColumn column <$> renamed_to)

unfoldable pub table_action : Parser AlterAction
table_action = do
  add_next ← eat_word (codes "add")
  if add_next then skip_column_before_definition >> (action.AddColumn <$> column_def false) else (do
    drop_next ← eat_word (codes "drop")
    if drop_next then skip_column_before_name >> (action.DropColumn <$> name) else (do
      rename_next ← eat_word (codes "rename")
      if rename_next then rename else (do
        set_next ← eat_word (codes "set")
        if set_next then expect_word (codes "schema") >> (action.SetSchema <$> name)
            else expect_word (codes "alter") >> alter_column)))

-- `SCHEMA name RENAME TO name | TABLE relation action`
unfoldable pub alter : Parser Command
alter = do
  schema_next ← eat_word (codes "schema")
  if schema_next then command.Schema <$> renaming else (do
    expect_word (codes "table")
    altered ← relation
    done ← table_action
    pure (command.AlterTable (record { table = altered; action = done })))
