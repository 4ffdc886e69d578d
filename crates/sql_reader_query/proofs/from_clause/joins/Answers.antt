use Rattle.std.proofs.Common.{rules, arith}
use Rattle.std.proofs.lemmas.Grind.{common_steps}
use Rattle.sql_expr.proofs.Turns.{one_more, no_more}
use Rattle.sql_reader_query.specs.FromClause.{joins_from}
use Rattle.sql_reader_query.proofs.from_clause.joins.Goals as goal

pub returns-in_err-join : goal.returns-in_err-join
unfolding joins_from
returns-in_err-join c =
    let turn = one_more (λ n. joins_from n c.loop-turn.found c.loop-turn.cursor) _ c.loop-turn._turn c.loop-turn-test.true c.loop-turn.invariant in
    first_of (search rules, grind (arith, common_steps))

pub returns-in_default : goal.returns-in_default
unfolding joins_from
returns-in_default c =
    let turn = one_more (λ n. joins_from n c.loop-turn.found c.loop-turn.cursor) _ c.loop-turn._turn c.loop-turn-test.true c.loop-turn.invariant in
    first_of (search rules, grind (arith, common_steps))

pub loop-turn-preserved : goal.loop-turn-preserved
unfolding joins_from
loop-turn-preserved c =
    let turn = one_more (λ n. joins_from n c.loop-turn.found c.loop-turn.cursor) _ c.loop-turn._turn c.loop-turn-test.true c.loop-turn.invariant in
    first_of (search rules, grind (arith, common_steps))

pub returns : goal.returns
unfolding joins_from
returns c =
    let turn = no_more (λ n. joins_from n c.loop-turn.found c.loop-turn.cursor) _ c.loop-turn._turn c.loop-turn-test.false c.loop-turn.invariant in
    first_of (search rules, grind (arith, common_steps))
