-- Backslash lines, behind the token of the backslash and its letters.
use Rattle.std.specs.Prelude.{codes, if◌then◌else◌}
use Rattle.std.specs.Str.{bytes_eq}
use Rattle.sql_tree.specs.declared.command.Command.{Command}
use Rattle.sql_tree.specs.declared.command.Command.TheVariants as command
use Rattle.sql_tree.specs.declared.prepared.BindTree.{BindTree}
use Rattle.sql_tree.specs.declared.prepared.RunTree.{RunTree}
use Rattle.sql_expr.specs.Reading.{Text, Parser, ◌>>=◌, ◌<$>◌, pure, refuse}
use Rattle.sql_expr.specs.Names.{name}
use Rattle.sql_reader_session.specs.Numbers.{count}
use Rattle.sql_reader_session.specs.Prepared.{prepare_tree, execute_tree}

-- `portal execute`
unfoldable pub bind_tree : Parser BindTree
bind_tree = do
  portal ← name
  statement ← execute_tree
  pure (record { portal = portal; execute = statement })

-- `portal count`
unfoldable pub run_tree : Parser RunTree
run_tree = do
  portal ← name
  rows ← count
  pure (record { portal = portal; count = rows })

-- the letters as they are written
unfoldable pub backslash_line : Text → Parser Command
backslash_line letters =
    if bytes_eq letters (codes "prepared") then pure command.ShowPrepared
    else (if bytes_eq letters (codes "cursors") then pure command.ShowCursors
    else (if bytes_eq letters (codes "parse") then command.Parse <$> prepare_tree
    else (if bytes_eq letters (codes "bind") then command.Bind <$> bind_tree
    else (if bytes_eq letters (codes "run") then command.Run <$> run_tree
    else (if bytes_eq letters (codes "end") then command.EndPortal <$> name
    else (if bytes_eq letters (codes "sync") then pure command.Sync else refuse))))))
