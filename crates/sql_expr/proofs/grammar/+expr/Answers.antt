use Rattle.std.proofs.Common.{◌≡◌, codes, ap, rules, arith}
use Rattle.std.proofs.lemmas.Grind.{common_steps}
use Rattle.sql_tokens.specs.declared.token.Sign.TheVariants as sign
use Rattle.sql_expr.specs.declared.grammar.Level.TheVariants.{Whole}
use Rattle.sql_expr.specs.Reading.{taken, eat_word, eat_sign, separated_from}
use Rattle.sql_expr.specs.Operators.{additive_of, multiplicative_of}
use Rattle.sql_expr.specs.Expressions.{nested, negation, conjunction, signed, product, grouped_from}
use Rattle.sql_expr.proofs.Turns.{one_more, no_more, deeper}
use Rattle.sql_expr.proofs.grammar.+expr.Goals as goal

pub nested-returns-then-depth-eq0 : goal.nested-returns-then-depth-eq0
unfolding nested
nested-returns-then-depth-eq0 t c =
    let none : c.args.depth ≡ 0 = omega arith in
    let refused = ap (λ n. nested n c.args.level c.args.cursor.now) none in
    first_of (search rules, grind (arith, common_steps))

pub nested-returns-in-Whole : goal.nested-returns-in-Whole
unfolding nested
nested-returns-in-Whole t c =
    let within = deeper (λ n. nested n c.args.level c.args.cursor.now) c.args.depth (omega arith) in
    rw (within, c.in-Whole.is) c.disjunction.ensures

pub nested-returns-in-Negated : goal.nested-returns-in-Negated
unfolding nested
nested-returns-in-Negated t c =
    let within = deeper (λ n. nested n c.args.level c.args.cursor.now) c.args.depth (omega arith) in
    rw (within, c.in-Negated.is) c.negation.ensures

pub nested-returns-in-Signed : goal.nested-returns-in-Signed
unfolding nested
nested-returns-in-Signed t c =
    let within = deeper (λ n. nested n c.args.level c.args.cursor.now) c.args.depth (omega arith) in
    rw (within, c.in-Signed.is) c.signed.ensures

pub disjuncts-returns-in_err-conjunction : goal.disjuncts-returns-in_err-conjunction
unfolding separated_from
disjuncts-returns-in_err-conjunction t c =
    let turn = one_more (λ n. separated_from (eat_word (codes "or")) (conjunction (nested c.args.depth)) n c.loop-turn.operands c.loop-turn.cursor) _ c.loop-turn._turn c.loop-turn-test.true c.loop-turn.invariant in
    first_of (search rules, grind (arith, common_steps))

pub disjuncts-returns-then-not-eat_word : goal.disjuncts-returns-then-not-eat_word
unfolding separated_from
disjuncts-returns-then-not-eat_word t c =
    let turn = one_more (λ n. separated_from (eat_word (codes "or")) (conjunction (nested c.args.depth)) n c.loop-turn.operands c.loop-turn.cursor) _ c.loop-turn._turn c.loop-turn-test.true c.loop-turn.invariant in
    first_of (search rules, grind (arith, common_steps))

pub disjuncts-loop-turn-preserved : goal.disjuncts-loop-turn-preserved
unfolding separated_from
disjuncts-loop-turn-preserved t c =
    let turn = one_more (λ n. separated_from (eat_word (codes "or")) (conjunction (nested c.args.depth)) n c.loop-turn.operands c.loop-turn.cursor) _ c.loop-turn._turn c.loop-turn-test.true c.loop-turn.invariant in
    first_of (search rules, grind (arith, common_steps))

pub disjuncts-returns : goal.disjuncts-returns
unfolding separated_from
disjuncts-returns t c =
    let turn = no_more (λ n. separated_from (eat_word (codes "or")) (conjunction (nested c.args.depth)) n c.loop-turn.operands c.loop-turn.cursor) _ c.loop-turn._turn c.loop-turn-test.false c.loop-turn.invariant in
    first_of (search rules, grind (arith, common_steps))

pub conjuncts-returns-in_err-negation : goal.conjuncts-returns-in_err-negation
unfolding separated_from
conjuncts-returns-in_err-negation t c =
    let turn = one_more (λ n. separated_from (eat_word (codes "and")) (negation (nested c.args.depth)) n c.loop-turn.operands c.loop-turn.cursor) _ c.loop-turn._turn c.loop-turn-test.true c.loop-turn.invariant in
    first_of (search rules, grind (arith, common_steps))

pub conjuncts-returns-then-not-eat_word : goal.conjuncts-returns-then-not-eat_word
unfolding separated_from
conjuncts-returns-then-not-eat_word t c =
    let turn = one_more (λ n. separated_from (eat_word (codes "and")) (negation (nested c.args.depth)) n c.loop-turn.operands c.loop-turn.cursor) _ c.loop-turn._turn c.loop-turn-test.true c.loop-turn.invariant in
    first_of (search rules, grind (arith, common_steps))

pub conjuncts-loop-turn-preserved : goal.conjuncts-loop-turn-preserved
unfolding separated_from
conjuncts-loop-turn-preserved t c =
    let turn = one_more (λ n. separated_from (eat_word (codes "and")) (negation (nested c.args.depth)) n c.loop-turn.operands c.loop-turn.cursor) _ c.loop-turn._turn c.loop-turn-test.true c.loop-turn.invariant in
    first_of (search rules, grind (arith, common_steps))

pub conjuncts-returns : goal.conjuncts-returns
unfolding separated_from
conjuncts-returns t c =
    let turn = no_more (λ n. separated_from (eat_word (codes "and")) (negation (nested c.args.depth)) n c.loop-turn.operands c.loop-turn.cursor) _ c.loop-turn._turn c.loop-turn-test.false c.loop-turn.invariant in
    first_of (search rules, grind (arith, common_steps))

pub values-returns-in_err-nested : goal.values-returns-in_err-nested
unfolding separated_from
values-returns-in_err-nested t c =
    let turn = one_more (λ n. separated_from (eat_sign sign.Comma) (nested c.args.depth Whole) n c.loop-turn.values c.loop-turn.cursor) _ c.loop-turn._turn c.loop-turn-test.true c.loop-turn.invariant in
    first_of (search rules, grind (arith, common_steps))

pub values-returns-then-not-eat_sign : goal.values-returns-then-not-eat_sign
unfolding separated_from
values-returns-then-not-eat_sign t c =
    let turn = one_more (λ n. separated_from (eat_sign sign.Comma) (nested c.args.depth Whole) n c.loop-turn.values c.loop-turn.cursor) _ c.loop-turn._turn c.loop-turn-test.true c.loop-turn.invariant in
    first_of (search rules, grind (arith, common_steps))

pub values-loop-turn-preserved : goal.values-loop-turn-preserved
unfolding separated_from
values-loop-turn-preserved t c =
    let turn = one_more (λ n. separated_from (eat_sign sign.Comma) (nested c.args.depth Whole) n c.loop-turn.values c.loop-turn.cursor) _ c.loop-turn._turn c.loop-turn-test.true c.loop-turn.invariant in
    first_of (search rules, grind (arith, common_steps))

pub values-returns : goal.values-returns
unfolding separated_from
values-returns t c =
    let turn = no_more (λ n. separated_from (eat_sign sign.Comma) (nested c.args.depth Whole) n c.loop-turn.values c.loop-turn.cursor) _ c.loop-turn._turn c.loop-turn-test.false c.loop-turn.invariant in
    first_of (search rules, grind (arith, common_steps))

pub product-returns-in_default : goal.product-returns-in_default
unfolding grouped_from
product-returns-in_default t c =
    let turn = one_more (λ n. grouped_from (taken multiplicative_of) (signed (nested c.args.depth)) n c.loop-turn.left c.loop-turn.cursor) _ c.loop-turn._turn c.loop-turn-test.true c.loop-turn.invariant in
    first_of (search rules, grind (arith, common_steps))

pub product-returns-in-Err : goal.product-returns-in-Err
unfolding grouped_from
product-returns-in-Err t c =
    let turn = one_more (λ n. grouped_from (taken multiplicative_of) (signed (nested c.args.depth)) n c.loop-turn.left c.loop-turn.cursor) _ c.loop-turn._turn c.loop-turn-test.true c.loop-turn.invariant in
    first_of (search rules, grind (arith, common_steps))

pub product-loop-turn-preserved : goal.product-loop-turn-preserved
unfolding grouped_from
product-loop-turn-preserved t c =
    let turn = one_more (λ n. grouped_from (taken multiplicative_of) (signed (nested c.args.depth)) n c.loop-turn.left c.loop-turn.cursor) _ c.loop-turn._turn c.loop-turn-test.true c.loop-turn.invariant in
    first_of (search rules, grind (arith, common_steps))

pub product-returns : goal.product-returns
unfolding grouped_from
product-returns t c =
    let turn = no_more (λ n. grouped_from (taken multiplicative_of) (signed (nested c.args.depth)) n c.loop-turn.left c.loop-turn.cursor) _ c.loop-turn._turn c.loop-turn-test.false c.loop-turn.invariant in
    first_of (search rules, grind (arith, common_steps))

pub sum-returns-in_default : goal.sum-returns-in_default
unfolding grouped_from
sum-returns-in_default t c =
    let turn = one_more (λ n. grouped_from (taken additive_of) (product (nested c.args.depth)) n c.loop-turn.left c.loop-turn.cursor) _ c.loop-turn._turn c.loop-turn-test.true c.loop-turn.invariant in
    first_of (search rules, grind (arith, common_steps))

pub sum-returns-in-Err : goal.sum-returns-in-Err
unfolding grouped_from
sum-returns-in-Err t c =
    let turn = one_more (λ n. grouped_from (taken additive_of) (product (nested c.args.depth)) n c.loop-turn.left c.loop-turn.cursor) _ c.loop-turn._turn c.loop-turn-test.true c.loop-turn.invariant in
    first_of (search rules, grind (arith, common_steps))

pub sum-loop-turn-preserved : goal.sum-loop-turn-preserved
unfolding grouped_from
sum-loop-turn-preserved t c =
    let turn = one_more (λ n. grouped_from (taken additive_of) (product (nested c.args.depth)) n c.loop-turn.left c.loop-turn.cursor) _ c.loop-turn._turn c.loop-turn-test.true c.loop-turn.invariant in
    first_of (search rules, grind (arith, common_steps))

pub sum-returns : goal.sum-returns
unfolding grouped_from
sum-returns t c =
    let turn = no_more (λ n. grouped_from (taken additive_of) (product (nested c.args.depth)) n c.loop-turn.left c.loop-turn.cursor) _ c.loop-turn._turn c.loop-turn-test.false c.loop-turn.invariant in
    first_of (search rules, grind (arith, common_steps))
