use Rattle.std.proofs.Common.{chars, subst}
use Rattle.sql_tokens.specs.declared.lexer.Place.TheVariants.{Start}
use Rattle.sql_tokens.specs.Spelling.{Spells}
use Rattle.sql_tokens.proofs.SpellingWhole.{tokens_of-sound, tokens_of-complete, spelt_once}
use Rattle.sql_tokens.proofs.laws.spelling.Goals as goal

pub returns : goal.returns
returns c = record {
  once = spelt_once;
  exact = λ text given. (tokens_of-complete text given, λ e. subst (Spells Start (chars text)) e (tokens_of-sound text));
}
