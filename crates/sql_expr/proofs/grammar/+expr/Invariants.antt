use Rattle.std.proofs.Common.{◌≡◌, ◌+◌, ◌-◌, ◌*◌, codes}
use Rattle.sql_tokens.specs.declared.token.Sign.TheVariants as sign
use Rattle.sql_expr.specs.declared.grammar.Level.TheVariants.{Whole}
use Rattle.sql_expr.specs.Reading.{taken, eat_word, eat_sign, separated_from}
use Rattle.sql_expr.specs.Operators.{additive_of, multiplicative_of}
use Rattle.sql_expr.specs.Expressions as spec
use Rattle.sql_expr.proofs.grammar.+expr.Given as goal

-- the depth that is left, and below it the line of the grammar
abbrev pub decreases-nested : goal.decreases-nested
decreases-nested l = 32 * l.depth

abbrev pub decreases-call : goal.decreases-call
decreases-call l = 32 * l.depth + 1

abbrev pub decreases-parenthesized : goal.decreases-parenthesized
decreases-parenthesized l = 32 * l.depth + 2

abbrev pub decreases-named : goal.decreases-named
decreases-named l = 32 * l.depth + 3

abbrev pub decreases-primary : goal.decreases-primary
decreases-primary l = 32 * l.depth + 4

abbrev pub decreases-signed : goal.decreases-signed
decreases-signed l = 32 * l.depth + 5

abbrev pub decreases-product : goal.decreases-product
decreases-product l = 32 * l.depth + 6

abbrev pub decreases-sum : goal.decreases-sum
decreases-sum l = 32 * l.depth + 7

abbrev pub decreases-values : goal.decreases-values
decreases-values l = 32 * l.depth + 8

abbrev pub decreases-in_list : goal.decreases-in_list
decreases-in_list l = 32 * l.depth + 9

abbrev pub decreases-between : goal.decreases-between
decreases-between l = 32 * l.depth + 10

abbrev pub decreases-membership : goal.decreases-membership
decreases-membership l = 32 * l.depth + 11

abbrev pub decreases-comparison : goal.decreases-comparison
decreases-comparison l = 32 * l.depth + 12

abbrev pub decreases-null_test : goal.decreases-null_test
decreases-null_test l = 32 * l.depth + 13

abbrev pub decreases-negation : goal.decreases-negation
decreases-negation l = 32 * l.depth + 14

abbrev pub decreases-conjuncts : goal.decreases-conjuncts
decreases-conjuncts l = 32 * l.depth + 15

abbrev pub decreases-conjunction : goal.decreases-conjunction
decreases-conjunction l = 32 * l.depth + 16

abbrev pub decreases-disjuncts : goal.decreases-disjuncts
decreases-disjuncts l = 32 * l.depth + 17

abbrev pub decreases-disjunction : goal.decreases-disjunction
decreases-disjunction l = 32 * l.depth + 18

abbrev pub invariant-conjuncts-loop-turn : goal.invariant-conjuncts-loop-turn
invariant-conjuncts-loop-turn l = spec.conjuncts (spec.nested l.depth) l.fn.first l.fn.cursor ≡ separated_from (eat_word (codes "and")) (spec.negation (spec.nested l.depth)) (l._turn-end - l._turn) l.operands l.cursor

abbrev pub invariant-disjuncts-loop-turn : goal.invariant-disjuncts-loop-turn
invariant-disjuncts-loop-turn l = spec.disjuncts (spec.nested l.depth) l.fn.first l.fn.cursor ≡ separated_from (eat_word (codes "or")) (spec.conjunction (spec.nested l.depth)) (l._turn-end - l._turn) l.operands l.cursor

abbrev pub invariant-values-loop-turn : goal.invariant-values-loop-turn
invariant-values-loop-turn l = spec.values (spec.nested l.depth) l.fn.cursor ≡ separated_from (eat_sign sign.Comma) (spec.nested l.depth Whole) (l._turn-end - l._turn) l.values l.cursor

abbrev pub invariant-product-loop-turn : goal.invariant-product-loop-turn
invariant-product-loop-turn l = spec.product (spec.nested l.depth) l.fn.cursor ≡ spec.grouped_from (taken multiplicative_of) (spec.signed (spec.nested l.depth)) (l._turn-end - l._turn) l.left l.cursor

abbrev pub invariant-sum-loop-turn : goal.invariant-sum-loop-turn
invariant-sum-loop-turn l = spec.sum (spec.nested l.depth) l.fn.cursor ≡ spec.grouped_from (taken additive_of) (spec.product (spec.nested l.depth)) (l._turn-end - l._turn) l.left l.cursor
