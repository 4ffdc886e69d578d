-- The words with which commands begin.
use Rattle.std.specs.Prelude.{List, [], ◌∷◌, Option, codes}
use Rattle.std.specs.Map.{lookup}
use Rattle.std.specs.Str.{bytes_eq}
use Rattle.sql_expr.specs.Reading.{Text}
use Rattle.sql_reader.specs.declared.leading.CatalogWord.TheVariants as catalog
use Rattle.sql_reader.specs.declared.leading.Keyword.{Keyword}
use Rattle.sql_reader.specs.declared.leading.Keyword.TheVariants.{Statement, Session, Catalog}
use Rattle.sql_reader.specs.declared.leading.SessionWord.TheVariants as session

abbrev pub leading_words : List (Text × Keyword)
leading_words =
    (codes "abort", Session session.Abort) ∷
    (codes "alter", Catalog catalog.Alter) ∷
    (codes "analyze", Catalog catalog.Analyze) ∷
    (codes "begin", Session session.Begin) ∷
    (codes "close", Session session.Close) ∷
    (codes "commit", Session session.Commit) ∷
    (codes "create", Catalog catalog.Create) ∷
    (codes "deallocate", Session session.Deallocate) ∷
    (codes "declare", Session session.Declare) ∷
    (codes "delete", Statement) ∷
    (codes "discard", Session session.Discard) ∷
    (codes "drop", Catalog catalog.Drop) ∷
    (codes "end", Session session.Commit) ∷
    (codes "execute", Session session.Execute) ∷
    (codes "explain", Session session.Explain) ∷
    (codes "fetch", Session session.Fetch) ∷
    (codes "insert", Statement) ∷
    (codes "move", Session session.Move) ∷
    (codes "prepare", Session session.Prepare) ∷
    (codes "release", Session session.Release) ∷
    (codes "reset", Session session.Reset) ∷
    (codes "rollback", Session session.Rollback) ∷
    (codes "savepoint", Session session.Savepoint) ∷
    (codes "select", Statement) ∷
    (codes "set", Session session.Set) ∷
    (codes "show", Session session.Show) ∷
    (codes "start", Session session.Start) ∷
    (codes "truncate", Catalog catalog.Truncate) ∷
    (codes "update", Statement) ∷ []

-- the keyword that a word is at the head of a command
unfoldable pub keyword_of : Text → Option Keyword
keyword_of word = lookup (λ leading. bytes_eq leading word) leading_words
