use Rattle.std.proofs.Common.{rules, arith}
use Rattle.std.proofs.lemmas.Grind.{common_steps}
use Rattle.sql_expr.proofs.Turns.{one_more, no_more}
use Rattle.sql_reader_catalog.specs.Columns.{parts_from}
use Rattle.sql_reader_catalog.proofs.columns.parts.Goals as goal

pub returns-in_err-part : goal.returns-in_err-part
unfolding parts_from
returns-in_err-part c =
    let turn = one_more (λ n. parts_from c.args.keyed n c.loop-turn.def c.loop-turn.cursor) _ c.loop-turn._turn c.loop-turn-test.true c.loop-turn.invariant in
    first_of (search rules, grind (arith, common_steps))

pub returns-in_default : goal.returns-in_default
unfolding parts_from
returns-in_default c =
    let turn = one_more (λ n. parts_from c.args.keyed n c.loop-turn.def c.loop-turn.cursor) _ c.loop-turn._turn c.loop-turn-test.true c.loop-turn.invariant in
    first_of (search rules, grind (arith, common_steps))

pub loop-turn-preserved : goal.loop-turn-preserved
unfolding parts_from
loop-turn-preserved c =
    let turn = one_more (λ n. parts_from c.args.keyed n c.loop-turn.def c.loop-turn.cursor) _ c.loop-turn._turn c.loop-turn-test.true c.loop-turn.invariant in
    first_of (search rules, grind (arith, common_steps))

pub returns : goal.returns
unfolding parts_from
returns c =
    let turn = no_more (λ n. parts_from c.args.keyed n c.loop-turn.def c.loop-turn.cursor) _ c.loop-turn._turn c.loop-turn-test.false c.loop-turn.invariant in
    first_of (search rules, grind (arith, common_steps))
