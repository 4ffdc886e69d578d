use Rattle.std.proofs.Common.{◌≡◌, ◌-◌}
use Rattle.sql_tokens.specs.declared.token.Sign.TheVariants as sign
use Rattle.sql_expr.specs.Reading.{eat_sign, separated_from}
use Rattle.sql_reader_query.specs.Lists.{listed}
use Rattle.sql_reader_query.proofs.lists.list_of.Given as goal

abbrev pub invariant-loop-turn : goal.invariant-loop-turn
invariant-loop-turn g l = listed g.T.Element.reading l.fn.cursor ≡ separated_from (eat_sign sign.Comma) g.T.Element.reading (l._turn-end - l._turn) l.found l.cursor
