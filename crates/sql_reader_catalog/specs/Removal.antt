-- DROP, TRUNCATE and ANALYZE, each behind that word.
use Rattle.std.specs.Prelude.{Bool, false, true, Some, None, codes, if◌then◌else◌}
use Rattle.sql_tree.specs.declared.catalog.ObjectKind.{ObjectKind}
use Rattle.sql_tree.specs.declared.catalog.ObjectKind.TheVariants as object
use Rattle.sql_tree.specs.declared.catalog.SchemaCommand.TheVariants as schema
use Rattle.sql_tree.specs.declared.command.Command.{Command}
use Rattle.sql_tree.specs.declared.command.Command.TheVariants as command
use Rattle.sql_expr.specs.Reading.{Parser, ◌>>=◌, ◌>>◌, ◌<$>◌, pure, refuse, eat_word}
use Rattle.sql_expr.specs.Names.{name, sees_name}
use Rattle.sql_reader_query.specs.Names.{relation}

-- `TABLE | VIEW | INDEX`
unfoldable pub object_kind : Parser ObjectKind
object_kind = do
  table ← eat_word (codes "table")
  if table then pure object.Table else (do
    view ← eat_word (codes "view")
    if view then pure object.View else (do
      index ← eat_word (codes "index")
      if index then pure object.Index else refuse))

-- `[RESTRICT | CASCADE]`, and whether it is CASCADE
abbrev pub eat_cascade : Parser Bool
eat_cascade = do
  cascade ← eat_word (codes "cascade")
  if cascade then pure true else eat_word (codes "restrict") >> pure false

-- `SCHEMA name | (TABLE | VIEW | INDEX) relation [RESTRICT | CASCADE]`
unfoldable pub drop_object : Parser Command
drop_object = do
  schema_next ← eat_word (codes "schema")
  if schema_next then (λ dropped. command.Schema (schema.Drop dropped)) <$> name else (do
    kind ← object_kind
    dropped ← relation
    cascade ← eat_cascade
    pure (command.Drop (record { kind = kind; name = dropped; cascade = cascade })))

-- `[TABLE] relation`
unfoldable pub truncate : Parser Command
truncate = eat_word (codes "table") >> (command.Truncate <$> relation)

-- `[relation]`, which is written where a name comes next
unfoldable pub analyze : Parser Command
analyze = λ ts. (if sees_name ts then (λ table. command.Analyze (Some table)) <$> relation else pure (command.Analyze None)) ts
