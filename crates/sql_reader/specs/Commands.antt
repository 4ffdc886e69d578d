-- Commands as they are read.
use Rattle.std.specs.Prelude.{nat_lt, List, [], ◌∷◌, drop, Option, Some, None, Result, Ok, Err, if◌then◌else◌}
use Rattle.q_base.specs.declared.code.Code.TheVariants.{StackDepthExceeded, SyntaxError}
use Rattle.q_base.specs.declared.errors.SqlError.{SqlError}
use Rattle.sql_tokens.specs.declared.token.Token.{Token}
use Rattle.sql_tokens.specs.declared.token.Token.TheVariants as token
use Rattle.sql_tree.specs.declared.command.Command.{Command}
use Rattle.sql_expr.specs.Load.{load_of}
use Rattle.sql_expr.specs.Reading.{Text, Outcome, Parser, refuse}
use Rattle.sql_reader_query.specs.Statements.{statement_command}
use Rattle.sql_reader_session.specs.Blocks.{begin, start, commit, rollback, abort, savepoint, release}
use Rattle.sql_reader_session.specs.Cursors.{declare, fetch, move_cursor, close}
use Rattle.sql_reader_session.specs.Lines.{backslash_line}
use Rattle.sql_reader_session.specs.Prepared.{prepare, execute, explain, deallocate, discard}
use Rattle.sql_reader_session.specs.Settings.{set, reset, show}
use Rattle.sql_reader_catalog.specs.Alteration.{alter}
use Rattle.sql_reader_catalog.specs.Creation.{create}
use Rattle.sql_reader_catalog.specs.Removal.{drop_object, truncate, analyze}
use Rattle.sql_reader.specs.declared.leading.CatalogWord.{CatalogWord}
use Rattle.sql_reader.specs.declared.leading.CatalogWord.TheVariants as catalog
use Rattle.sql_reader.specs.declared.leading.Keyword.{Keyword}
use Rattle.sql_reader.specs.declared.leading.Keyword.TheVariants.{Statement, Session, Catalog}
use Rattle.sql_reader.specs.declared.leading.SessionWord.{SessionWord}
use Rattle.sql_reader.specs.declared.leading.SessionWord.TheVariants as session
use Rattle.sql_reader.specs.Leading.{keyword_of}

-- what stands behind the leading word
abbrev pub behind_session_word : SessionWord → Parser Command
behind_session_word session.Prepare = prepare
behind_session_word session.Execute = execute
behind_session_word session.Explain = explain
behind_session_word session.Deallocate = deallocate
behind_session_word session.Discard = discard
behind_session_word session.Declare = declare
behind_session_word session.Fetch = fetch
behind_session_word session.Move = move_cursor
behind_session_word session.Close = close
behind_session_word session.Begin = begin
behind_session_word session.Start = start
behind_session_word session.Commit = commit
behind_session_word session.Rollback = rollback
behind_session_word session.Abort = abort
behind_session_word session.Savepoint = savepoint
behind_session_word session.Release = release
behind_session_word session.Set = set
behind_session_word session.Reset = reset
behind_session_word session.Show = show

abbrev pub behind_catalog_word : CatalogWord → Parser Command
behind_catalog_word catalog.Create = create
behind_catalog_word catalog.Drop = drop_object
behind_catalog_word catalog.Alter = alter
behind_catalog_word catalog.Truncate = truncate
behind_catalog_word catalog.Analyze = analyze

-- A statement is read from its leading word on, another command from behind it.
abbrev pub from_keyword : Option Keyword → Parser Command
from_keyword (Some Statement) = statement_command
from_keyword (Some (Session word)) = λ ts. behind_session_word word (drop 1 ts)
from_keyword (Some (Catalog word)) = λ ts. behind_catalog_word word (drop 1 ts)
from_keyword None = refuse

unfoldable pub from_word : Text → Parser Command
from_word word = from_keyword (keyword_of word)

-- by the first token; a quoted word begins no command
unfoldable pub command : Parser Command
command (token.Word word ∷ ts) = from_word word (token.Word word ∷ ts)
command (token.Backslash letters ∷ ts) = backslash_line letters ts
command _ = None

-- what was read, if no token is left
abbrev pub whole : {A : Type 0} → Outcome A → Option A
whole (Some (a, [])) = Some a
whole _ = None

-- the command that the tokens are read as, where no token is left
unfoldable pub command_of : List Token → Option Command
command_of tokens = whole (command tokens)

abbrev pub or_syntax_error : Option Command → Result Command SqlError
or_syntax_error (Some command) = Ok command
or_syntax_error None = Err (record { code = SyntaxError; args = [] })

-- the command, or its first refusal: a load past 200 is found before anything that the tokens don't spell
abbrev pub command_read : List Token → Result Command SqlError
command_read tokens =
    if nat_lt 200 (load_of tokens) then Err (record { code = StackDepthExceeded; args = [] })
    else or_syntax_error (command_of tokens)
