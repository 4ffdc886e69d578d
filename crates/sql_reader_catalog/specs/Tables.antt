-- What CREATE TABLE and CREATE TEMP TABLE make.
use Rattle.std.specs.Prelude.{true, List, codes, if◌then◌else◌}
use Rattle.sql_tokens.specs.declared.token.Sign.TheVariants as sign
use Rattle.sql_tree.specs.declared.catalog.KeyKind.{KeyKind}
use Rattle.sql_tree.specs.declared.catalog.KeyKind.TheVariants as kind
use Rattle.sql_tree.specs.declared.catalog.OnCommit.{OnCommit}
use Rattle.sql_tree.specs.declared.catalog.OnCommit.TheVariants.{Preserve, Delete, Drop}
use Rattle.sql_tree.specs.declared.catalog.TableElement.{TableElement}
use Rattle.sql_tree.specs.declared.catalog.TableElement.TheVariants.{Column, Key}
use Rattle.sql_tree.specs.declared.catalog.TableTree.{TableTree}
use Rattle.sql_tree.specs.declared.catalog.TempTableTree.{TempTableTree}
use Rattle.sql_expr.specs.Reading.{Parser, ◌>>=◌, ◌>>◌, ◌<$>◌, pure, eat_word, eat_sign, expect_word, expect_sign, separated}
use Rattle.sql_reader_query.specs.Names.{relation, parenthesized_names}
use Rattle.sql_reader_catalog.specs.Columns.{column_def}

-- a key of that kind over the columns that come next
unfoldable pub constraint : KeyKind → Parser TableElement
constraint kind = (λ columns. Key (record { kind = kind; columns = columns })) <$> parenthesized_names

-- `PRIMARY KEY columns | UNIQUE columns | column_def`
unfoldable pub element : Parser TableElement
element = do
  primary ← eat_word (codes "primary")
  if primary then expect_word (codes "key") >> constraint kind.Primary else (do
    unique ← eat_word (codes "unique")
    if unique then constraint kind.Unique else Column <$> column_def true)

abbrev pub elements : Parser (List TableElement)
elements = separated (eat_sign sign.Comma) element

-- `relation ( element {, element} )`
unfoldable pub table : Parser TableTree
table = do
  name ← relation
  expect_sign sign.LeftParen
  found ← elements
  expect_sign sign.RightParen
  pure (record { name = name; elements = found })

-- `[ON COMMIT (PRESERVE ROWS | DELETE ROWS | DROP)]`; rows are preserved where it isn't written
unfoldable pub on_commit : Parser OnCommit
on_commit = do
  said ← eat_word (codes "on")
  if said then (do
    expect_word (codes "commit")
    dropped ← eat_word (codes "drop")
    if dropped then pure Drop else (do
      deleted ← eat_word (codes "delete")
      if deleted then expect_word (codes "rows") >> pure Delete else (do
        expect_word (codes "preserve")
        expect_word (codes "rows")
        pure Preserve))) else pure Preserve

unfoldable pub temp_table : Parser TempTableTree
temp_table = do
  made ← table
  ends ← on_commit
  pure (record { table = made; on_commit = ends })
