-- SET, RESET and SHOW, each behind its leading word.
use Rattle.std.specs.Prelude.{Bool, true, false, ◌||◌, not, List, ◌++◌, Option, None, Some, codes, if◌then◌else◌}
use Rattle.std.specs.Str.{bytes_eq}
use Rattle.q_base.specs.declared.settings.Setting.{Setting}
use Rattle.q_base.specs.declared.settings.SetValue.{SetValue}
use Rattle.q_base.specs.declared.settings.SetValue.TheVariants as value
use Rattle.sql_tokens.specs.declared.token.Token.{Token}
use Rattle.sql_tokens.specs.declared.token.Token.TheVariants as token
use Rattle.sql_tokens.specs.declared.token.Sign.TheVariants as sign
use Rattle.sql_tree.specs.declared.command.Command.{Command}
use Rattle.sql_tree.specs.declared.command.Command.TheVariants as command
use Rattle.sql_tree.specs.declared.expr.Numeral.{Numeral}
use Rattle.sql_expr.specs.Reading.{Text, Parser, ◌>>=◌, ◌>>◌, ◌<$>◌, pure, taken, eat_word, eat_sign, expect_sign, separated}
use Rattle.sql_expr.specs.Names.{is_reserved, name}
use Rattle.sql_expr.specs.Literals.{numeral}
use Rattle.sql_reader_session.specs.Keywords.{eat_before_name}

-- ON, TRUE and FALSE stand for themselves here, though they are no names
abbrev pub is_setting_word : Text → Bool
is_setting_word word = bytes_eq word (codes "on") || bytes_eq word (codes "true") || bytes_eq word (codes "false") || not (is_reserved word)

-- the text that a token gives a setting, but for a number
abbrev pub text_of : Token → Option Text
text_of (token.Word word) = if is_setting_word word then Some word else None
text_of (token.Quoted name) = Some name
text_of (token.Text text) = Some text
text_of _ = None

-- the digits as written, with the minus directly before them
abbrev pub numeral_text : Numeral → Text
numeral_text n = if n.negative then codes "-" ++ n.digits else n.digits

abbrev pub number_setting : Numeral → Setting
number_setting n = record { text = numeral_text n; number = true }

abbrev pub text_or_number : Option Text → Parser Setting
text_or_number (Some text) = pure (record { text = text; number = false })
text_or_number None = number_setting <$> numeral

-- `name | string | ON | TRUE | FALSE | [-] number`
unfoldable pub setting : Parser Setting
setting = taken text_of >>= text_or_number

unfoldable pub settings : Parser (List Setting)
settings = separated (eat_sign sign.Comma) setting

unfoldable pub set_value : Parser SetValue
set_value = do
  default ← eat_word (codes "default")
  if default then pure value.Default else value.List <$> settings

-- `[SESSION | LOCAL]`, each the keyword exactly where a name stands behind it, and whether it is LOCAL
unfoldable pub scope : Parser Bool
scope = do
  local ← eat_before_name (codes "local")
  if local then pure true else eat_before_name (codes "session") >> pure false

-- `TO | =`
unfoldable pub expect_to : Parser (Unit {0})
expect_to = do
  to ← eat_word (codes "to")
  if to then pure tt else expect_sign sign.Equal

unfoldable pub set : Parser Command
set = do
  local ← scope
  n ← name
  expect_to
  v ← set_value
  pure (command.Set (record { name = n; local = local; value = v }))

unfoldable pub reset : Parser Command
reset = command.Reset <$> name

unfoldable pub show : Parser Command
show = command.Show <$> name
