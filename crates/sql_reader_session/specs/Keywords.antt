-- Words that are a keyword in one place and a name in another, and words of which either may stand.
use Rattle.std.specs.Prelude.{Bool, true, ◌&&◌, drop, Some, if◌then◌else◌}
use Rattle.sql_expr.specs.Reading.{Text, Tokens, Parser, ◌>>=◌, pure, sees_word, behind, eat_word}
use Rattle.sql_expr.specs.Names.{sees_name}

-- the word is the keyword exactly where a name stands behind it, and else a name itself
abbrev pub is_before_name : Text → Tokens → Bool
is_before_name word ts = sees_word word ts && sees_name (drop 1 ts)

-- reads the word, where it is the keyword
abbrev pub eat_before_name : Text → Parser Bool
eat_before_name word = λ ts. Some (is_before_name word ts, behind (is_before_name word ts) ts)

-- reads the first word or else the second, if one of them comes next
abbrev pub eat_either : Text → Text → Parser Bool
eat_either first second = do
  found ← eat_word first
  if found then pure true else eat_word second
