use Rattle.std.proofs.Common.{rules, arith}
use Rattle.std.proofs.lemmas.Grind.{common_steps}
use Rattle.sql_tokens.specs.declared.token.Sign.TheVariants as sign
use Rattle.sql_expr.specs.Reading.{eat_sign, separated_from}
use Rattle.sql_expr.proofs.Turns.{one_more, no_more}
use Rattle.sql_reader_catalog.specs.Tables.{element}
use Rattle.sql_reader_catalog.proofs.tables.elements.Goals as goal

pub returns-in_err-element : goal.returns-in_err-element
unfolding separated_from
returns-in_err-element c =
    let turn = one_more (λ n. separated_from (eat_sign sign.Comma) element n c.loop-turn.found c.loop-turn.cursor) _ c.loop-turn._turn c.loop-turn-test.true c.loop-turn.invariant in
    first_of (search rules, grind (arith, common_steps))

pub returns-then-not-eat_sign : goal.returns-then-not-eat_sign
unfolding separated_from
returns-then-not-eat_sign c =
    let turn = one_more (λ n. separated_from (eat_sign sign.Comma) element n c.loop-turn.found c.loop-turn.cursor) _ c.loop-turn._turn c.loop-turn-test.true c.loop-turn.invariant in
    first_of (search rules, grind (arith, common_steps))

pub loop-turn-preserved : goal.loop-turn-preserved
unfolding separated_from
loop-turn-preserved c =
    let turn = one_more (λ n. separated_from (eat_sign sign.Comma) element n c.loop-turn.found c.loop-turn.cursor) _ c.loop-turn._turn c.loop-turn-test.true c.loop-turn.invariant in
    first_of (search rules, grind (arith, common_steps))

pub returns : goal.returns
unfolding separated_from
returns c =
    let turn = no_more (λ n. separated_from (eat_sign sign.Comma) element n c.loop-turn.found c.loop-turn.cursor) _ c.loop-turn._turn c.loop-turn-test.false c.loop-turn.invariant in
    first_of (search rules, grind (arith, common_steps))
