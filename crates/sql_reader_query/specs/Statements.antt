-- Statements, and the commands that consist of one.
use Rattle.std.specs.Prelude.{Option, Some, None, codes, if◌then◌else◌}
use Rattle.sql_tree.specs.declared.command.Command.{Command}
use Rattle.sql_tree.specs.declared.command.Command.TheVariants as command
use Rattle.sql_tree.specs.declared.statement.Statement.{Statement}
use Rattle.sql_tree.specs.declared.statement.Statement.TheVariants.{Select, Insert}
use Rattle.sql_expr.specs.Reading.{Parser, ◌>>=◌, ◌<$>◌, pure, eat_word}
use Rattle.sql_reader_query.specs.Changes.{insertion, change, searched, change_command}
use Rattle.sql_reader_query.specs.Query.{selection}

-- none where neither word comes next
unfoldable pub select_or_insert : Parser (Option Statement)
select_or_insert = do
  selects ← eat_word (codes "select")
  if selects then (λ s. Some (Select s)) <$> selection else (do
    inserts ← eat_word (codes "insert")
    if inserts then (λ i. Some (Insert i)) <$> insertion else pure None)

abbrev pub statement_or_change : Option Statement → Parser Statement
statement_or_change (Some s) = pure s
statement_or_change None = change >>= searched

unfoldable pub statement : Parser Statement
statement = select_or_insert >>= statement_or_change

abbrev pub command_or_change : Option Statement → Parser Command
command_or_change (Some s) = pure (command.Statement s)
command_or_change None = change >>= change_command

unfoldable pub statement_command : Parser Command
statement_command = select_or_insert >>= command_or_change
