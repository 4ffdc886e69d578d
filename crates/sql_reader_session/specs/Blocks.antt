-- BEGIN, START, COMMIT, END, ROLLBACK, ABORT, SAVEPOINT and RELEASE, each behind its leading word.
use Rattle.std.specs.Prelude.{Bool, codes, if◌then◌else◌}
use Rattle.sql_tree.specs.declared.command.Command.{Command}
use Rattle.sql_tree.specs.declared.command.Command.TheVariants as command
use Rattle.sql_expr.specs.Reading.{Text, Parser, ◌>>=◌, ◌>>◌, ◌<$>◌, pure, eat_word, expect_word}
use Rattle.sql_expr.specs.Names.{name}
use Rattle.sql_reader_session.specs.Keywords.{eat_before_name, eat_either}

-- `[WORK | TRANSACTION]`
abbrev pub eat_work : Parser Bool
eat_work = eat_either (codes "work") (codes "transaction")

-- `[SAVEPOINT] name`; SAVEPOINT is the keyword exactly where a name stands behind it
unfoldable pub savepoint_name : Parser Text
savepoint_name = eat_before_name (codes "savepoint") >> name

unfoldable pub begin : Parser Command
begin = eat_work >> pure command.Begin

unfoldable pub start : Parser Command
start = expect_word (codes "transaction") >> pure command.StartTransaction

-- behind COMMIT and END
unfoldable pub commit : Parser Command
commit = eat_work >> pure command.Commit

unfoldable pub rollback : Parser Command
rollback = do
  eat_work
  to ← eat_word (codes "to")
  if to then command.RollbackTo <$> savepoint_name else pure command.Rollback

unfoldable pub abort : Parser Command
abort = eat_work >> pure command.Rollback

unfoldable pub savepoint : Parser Command
savepoint = command.Savepoint <$> name

unfoldable pub release : Parser Command
release = command.Release <$> savepoint_name
