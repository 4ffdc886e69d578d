use Rattle.std.proofs.Common.{◌≡◌, ◌-◌}
use Rattle.sql_tokens.specs.declared.token.Sign.TheVariants as sign
use Rattle.sql_expr.specs.Reading.{eat_sign, separated_from}
use Rattle.sql_reader_session.specs.Settings.{setting, settings}
use Rattle.sql_reader_session.proofs.settings.settings.Given as goal

abbrev pub invariant-loop-turn : goal.invariant-loop-turn
invariant-loop-turn l = settings l.fn.cursor ≡ separated_from (eat_sign sign.Comma) setting (l._turn-end - l._turn) l.found l.cursor
