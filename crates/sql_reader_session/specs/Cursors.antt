-- DECLARE, FETCH, MOVE and CLOSE, each behind its leading word.
use Rattle.std.specs.Prelude.{ℕ, zero, suc, Bool, true, false, length, Option, None, Some, codes, if◌then◌else◌}
use Rattle.std.specs.Str.{bytes_eq}
use Rattle.sql_tokens.specs.declared.token.Token.{Token}
use Rattle.sql_tokens.specs.declared.token.Token.TheVariants as token
use Rattle.sql_tree.specs.declared.command.Command.{Command}
use Rattle.sql_tree.specs.declared.command.Command.TheVariants as command
use Rattle.sql_tree.specs.declared.cursors.CursorOptions.{CursorOptions}
use Rattle.sql_tree.specs.declared.cursors.FetchTree.{FetchTree}
use Rattle.sql_tree.specs.declared.statement.Statement.TheVariants as statement
use Rattle.sql_expr.specs.Reading.{Text, Parser, ◌>>=◌, ◌>>◌, ◌<$>◌, pure, taken, goes_on, eat_word, expect_word}
use Rattle.sql_expr.specs.Names.{name}
use Rattle.sql_reader_query.specs.Query.{select}
use Rattle.sql_reader_session.specs.declared.cursors.CursorOption.{CursorOption}
use Rattle.sql_reader_session.specs.declared.cursors.CursorOption.TheVariants.{Scroll, NoScroll, Insensitive, Asensitive}
use Rattle.sql_reader_session.specs.Keywords.{eat_either}
use Rattle.sql_reader_session.specs.Motions.{optional_motion}

-- the option that one word is
abbrev pub option_of_word : Text → Option CursorOption
option_of_word word =
    if bytes_eq word (codes "scroll") then Some Scroll
    else (if bytes_eq word (codes "insensitive") then Some Insensitive
    else (if bytes_eq word (codes "asensitive") then Some Asensitive else None))

abbrev pub option_of : Token → Option CursorOption
option_of (token.Word word) = option_of_word word
option_of _ = None

-- `[SCROLL | NO SCROLL | INSENSITIVE | ASENSITIVE]`
unfoldable pub cursor_option : Parser (Option CursorOption)
cursor_option = do
  negated ← eat_word (codes "no")
  if negated then expect_word (codes "scroll") >> pure (Some NoScroll) else taken option_of

abbrev pub no_options : CursorOptions
no_options = record { scroll = false; no_scroll = false; insensitive = false; asensitive = false }

-- an option more, which may be among them already
abbrev pub with_option : CursorOptions → CursorOption → CursorOptions
with_option options Scroll = record options { scroll = true }
with_option options NoScroll = record options { no_scroll = true }
with_option options Insensitive = record options { insensitive = true }
with_option options Asensitive = record options { asensitive = true }

-- The number bounds the turns; each turn reads a token, so the count of tokens is enough.
unfoldable pub options_from : ℕ → CursorOptions → Parser CursorOptions
options_from zero options = pure options
options_from (suc n) options = do
  found ← cursor_option
  goes_on found (λ option. options_from n (with_option options option)) options

-- options in any order, each once or several times
unfoldable pub cursor_options : Parser CursorOptions
cursor_options = λ ts. options_from (length ts) no_options ts

-- `[(WITH | WITHOUT) HOLD]`, and whether WITH is written
unfoldable pub hold : Parser Bool
hold = do
  with_it ← eat_word (codes "with")
  if with_it then expect_word (codes "hold") >> pure true else (do
    without_it ← eat_word (codes "without")
    if without_it then expect_word (codes "hold") >> pure false else pure false)

-- `CURSOR [hold] FOR`
unfoldable pub cursor_for : Parser Bool
cursor_for = do
  expect_word (codes "cursor")
  held ← hold
  expect_word (codes "for")
  pure held

unfoldable pub declare : Parser Command
declare = do
  cursor ← name
  options ← cursor_options
  held ← cursor_for
  query ← select
  pure (command.Declare (record { name = cursor; options = options; hold = held; query = statement.Select query }))

-- `[motion] [FROM | IN] name`
unfoldable pub fetch_tree : Parser FetchTree
fetch_tree = do
  motion ← optional_motion
  eat_either (codes "from") (codes "in")
  cursor ← name
  pure (record { motion = motion; cursor = cursor })

unfoldable pub fetch : Parser Command
fetch = command.Fetch <$> fetch_tree

unfoldable pub move_cursor : Parser Command
move_cursor = command.Move <$> fetch_tree

unfoldable pub close : Parser Command
close = do
  all ← eat_word (codes "all")
  if all then pure command.CloseAll else command.Close <$> name
