-- COLUMN in ALTER TABLE, which is a keyword and may also be a column's name. It is the keyword where the command
-- can be read so to its end, and else the name; the tokens next behind it are enough to tell.
use Rattle.std.specs.Prelude.{Bool, drop, codes, ◌&&◌, ◌||◌, Some, if◌then◌else◌}
use Rattle.sql_expr.specs.Reading.{Tokens, Parser, sees_word, behind}
use Rattle.sql_expr.specs.Names.{sees_name}

-- reads the next token where the rule says so
abbrev pub skip_where : (Tokens → Bool) → Parser (Unit {0})
skip_where rule = λ ts. Some (tt, behind (rule ts) ts)

-- behind ADD: two names follow, those of a column and its type
abbrev pub is_column_before_definition : Tokens → Bool
is_column_before_definition ts = sees_word (codes "column") ts && sees_name (drop 1 ts) && sees_name (drop 1 (drop 1 ts))

-- behind DROP, and behind RENAME, where TO is no name: a name follows
abbrev pub is_column_before_name : Tokens → Bool
is_column_before_name ts = sees_word (codes "column") ts && sees_name (drop 1 ts)

-- `TYPE name`, SET, `DROP DEFAULT` or `DROP NOT`
unfoldable pub sees_change : Tokens → Bool
sees_change ts =
    if sees_word (codes "type") ts then sees_name (drop 1 ts)
    else (if sees_word (codes "drop") ts then sees_word (codes "default") (drop 1 ts) || sees_word (codes "not") (drop 1 ts)
    else sees_word (codes "set") ts)

-- behind the inner ALTER: a name follows, and behind that a change. So `column type drop` changes the type of a column
-- named column, and `column type type int` that of one named type.
abbrev pub is_column_before_change : Tokens → Bool
is_column_before_change ts = sees_word (codes "column") ts && sees_name (drop 1 ts) && sees_change (drop 1 (drop 1 ts))

abbrev pub skip_column_before_definition : Parser (Unit {0})
skip_column_before_definition = skip_where is_column_before_definition

abbrev pub skip_column_before_name : Parser (Unit {0})
skip_column_before_name = skip_where is_column_before_name

abbrev pub skip_column_before_change : Parser (Unit {0})
skip_column_before_change = skip_where is_column_before_change
