use Rattle.std.proofs.Common.{rules, arith}
use Rattle.std.proofs.lemmas.Grind.{common_steps}
use Rattle.sql_reader_session.specs.Cursors.{options_from}
use Rattle.sql_expr.proofs.Turns.{one_more, no_more}
use Rattle.sql_reader_session.proofs.cursors.cursor_options.Goals as goal

pub returns-in_err-option : goal.returns-in_err-option
unfolding options_from
returns-in_err-option c =
    let turn = one_more (λ n. options_from n c.loop-turn.options c.loop-turn.cursor) _ c.loop-turn._turn c.loop-turn-test.true c.loop-turn.invariant in
    first_of (search rules, grind (arith, common_steps))

pub returns-in-None : goal.returns-in-None
unfolding options_from
returns-in-None c =
    let turn = one_more (λ n. options_from n c.loop-turn.options c.loop-turn.cursor) _ c.loop-turn._turn c.loop-turn-test.true c.loop-turn.invariant in
    first_of (search rules, grind (arith, common_steps))

pub loop-turn-preserved : goal.loop-turn-preserved
unfolding options_from
loop-turn-preserved c =
    let turn = one_more (λ n. options_from n c.loop-turn.options c.loop-turn.cursor) _ c.loop-turn._turn c.loop-turn-test.true c.loop-turn.invariant in
    first_of (search rules, grind (arith, common_steps))

pub returns : goal.returns
unfolding options_from
returns c =
    let turn = no_more (λ n. options_from n c.loop-turn.options c.loop-turn.cursor) _ c.loop-turn._turn c.loop-turn-test.false c.loop-turn.invariant in
    first_of (search rules, grind (arith, common_steps))
