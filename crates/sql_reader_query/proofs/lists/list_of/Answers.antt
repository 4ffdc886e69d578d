use Rattle.std.proofs.Common.{rules, arith}
use Rattle.std.proofs.lemmas.Grind.{common_steps}
use Rattle.sql_tokens.specs.declared.token.Sign.TheVariants as sign
use Rattle.sql_expr.specs.Reading.{eat_sign, separated_from}
use Rattle.sql_expr.proofs.Turns.{one_more, no_more}
use Rattle.sql_reader_query.proofs.lists.list_of.Goals as goal

pub returns-in_err-read : goal.returns-in_err-read
unfolding separated_from
returns-in_err-read g c =
    let turn = one_more (λ n. separated_from (eat_sign sign.Comma) g.T.Element.reading n c.loop-turn.found c.loop-turn.cursor) _ c.loop-turn._turn c.loop-turn-test.true c.loop-turn.invariant in
    first_of (search rules, grind (arith, common_steps))

pub returns-then-not-eat_sign : goal.returns-then-not-eat_sign
unfolding separated_from
returns-then-not-eat_sign g c =
    let turn = one_more (λ n. separated_from (eat_sign sign.Comma) g.T.Element.reading n c.loop-turn.found c.loop-turn.cursor) _ c.loop-turn._turn c.loop-turn-test.true c.loop-turn.invariant in
    first_of (search rules, grind (arith, common_steps))

pub loop-turn-preserved : goal.loop-turn-preserved
unfolding separated_from
loop-turn-preserved g c =
    let turn = one_more (λ n. separated_from (eat_sign sign.Comma) g.T.Element.reading n c.loop-turn.found c.loop-turn.cursor) _ c.loop-turn._turn c.loop-turn-test.true c.loop-turn.invariant in
    first_of (search rules, grind (arith, common_steps))

pub returns : goal.returns
unfolding separated_from
returns g c =
    let turn = no_more (λ n. separated_from (eat_sign sign.Comma) g.T.Element.reading n c.loop-turn.found c.loop-turn.cursor) _ c.loop-turn._turn c.loop-turn-test.false c.loop-turn.invariant in
    first_of (search rules, grind (arith, common_steps))
