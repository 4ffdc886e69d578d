-- Names of relations and columns, and lists of names.
use Rattle.std.specs.Prelude.{List, [], Option, Some, None, if◌then◌else◌}
use Rattle.sql_tokens.specs.declared.token.Sign.TheVariants as sign
use Rattle.sql_tree.specs.declared.names.ColumnRef.{ColumnRef}
use Rattle.sql_tree.specs.declared.names.QName.{QName}
use Rattle.sql_expr.specs.Reading.{Text, Parser, ◌>>=◌, ◌>>◌, ◌<$>◌, pure, eat_sign, expect_sign}
use Rattle.sql_expr.specs.Names.{name}
use Rattle.sql_reader_query.specs.Lists.{listed}

-- a name, and the one before it and a dot
unfoldable pub qualified : Parser (Option Text × Text)
qualified = do
  first ← name
  dotted ← eat_sign sign.Dot
  if dotted then (λ second. (Some first, second)) <$> name else pure (None, first)

unfoldable pub relation : Parser QName
relation = (λ q. record { schema = q.0; name = q.1 }) <$> qualified

unfoldable pub column : Parser ColumnRef
column = (λ q. record { item = q.0; name = q.1 }) <$> qualified

unfoldable pub names : Parser (List Text)
names = listed name

-- behind `(`
unfoldable pub enclosed_names : Parser (List Text)
enclosed_names = do
  found ← names
  expect_sign sign.RightParen
  pure found

unfoldable pub parenthesized_names : Parser (List Text)
parenthesized_names = expect_sign sign.LeftParen >> enclosed_names

-- none where no opening parenthesis comes next
unfoldable pub optional_names : Parser (List Text)
optional_names = do
  opened ← eat_sign sign.LeftParen
  if opened then enclosed_names else pure []
