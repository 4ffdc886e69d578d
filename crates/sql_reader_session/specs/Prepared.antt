-- PREPARE, EXECUTE, EXPLAIN, DEALLOCATE and DISCARD, each behind its leading word.
use Rattle.std.specs.Prelude.{Bool, ◌&&◌, ◌||◌, List, [], drop, Some, codes, if◌then◌else◌}
use Rattle.sql_tokens.specs.declared.token.Sign.TheVariants as sign
use Rattle.sql_tree.specs.declared.command.Command.{Command}
use Rattle.sql_tree.specs.declared.command.Command.TheVariants as command
use Rattle.sql_tree.specs.declared.expr.Expr.{Expr}
use Rattle.sql_tree.specs.declared.prepared.ExecuteTree.{ExecuteTree}
use Rattle.sql_tree.specs.declared.prepared.PrepareTree.{PrepareTree}
use Rattle.sql_expr.specs.Reading.{Tokens, Parser, ◌>>=◌, ◌>>◌, ◌<$>◌, pure, refuse, sees_word, behind, eat_word, eat_sign, expect_word, expect_sign, separated}
use Rattle.sql_expr.specs.Names.{name, sees_name}
use Rattle.sql_expr.specs.Expressions.{expression}
use Rattle.sql_reader_query.specs.Names.{optional_names}
use Rattle.sql_reader_query.specs.Statements.{statement}
use Rattle.sql_reader_session.specs.Keywords.{eat_either}

-- expressions with commas between them
unfoldable pub expressions : Parser (List Expr)
expressions = separated (eat_sign sign.Comma) expression

-- `["(" expressions ")"]`
unfoldable pub arguments : Parser (List Expr)
arguments = do
  opened ← eat_sign sign.LeftParen
  if opened then (do
    found ← expressions
    expect_sign sign.RightParen
    pure found) else pure []

-- `name ["(" list(type) ")"] AS statement`, where a type is a name
unfoldable pub prepare_tree : Parser PrepareTree
prepare_tree = do
  n ← name
  types ← optional_names
  expect_word (codes "as")
  s ← statement
  pure (record { name = n; types = types; statement = s })

-- `name [arguments]`
unfoldable pub execute_tree : Parser ExecuteTree
execute_tree = do
  n ← name
  found ← arguments
  pure (record { name = n; arguments = found })

unfoldable pub prepare : Parser Command
prepare = command.Prepare <$> prepare_tree

unfoldable pub execute : Parser Command
execute = command.Execute <$> execute_tree

unfoldable pub explain : Parser Command
explain = do
  executed ← eat_word (codes "execute")
  if executed then command.ExplainExecute <$> execute_tree else command.Explain <$> statement

-- PREPARE is the keyword exactly where a name or ALL stands behind it, and else the statement's name
abbrev pub is_prepare_keyword : Tokens → Bool
is_prepare_keyword ts = sees_word (codes "prepare") ts && (sees_name (drop 1 ts) || sees_word (codes "all") (drop 1 ts))

abbrev pub eat_prepare : Parser Bool
eat_prepare = λ ts. Some (is_prepare_keyword ts, behind (is_prepare_keyword ts) ts)

unfoldable pub deallocate : Parser Command
deallocate = do
  eat_prepare
  all ← eat_word (codes "all")
  if all then pure command.DeallocateAll else command.Deallocate <$> name

unfoldable pub discard : Parser Command
discard = do
  plans ← eat_word (codes "plans")
  if plans then pure command.DiscardPlans else (do
    temporary ← eat_either (codes "temp") (codes "temporary")
    if temporary then pure command.DiscardTemp else refuse)
