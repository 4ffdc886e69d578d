use Rattle.std.proofs.Common.{◌≡◌, [], length}
use Rattle.std.specs.Vec.Iter.{into_iter_items, into_iter_len}
use Rattle.q_value.specs.declared.value.SqlType.TheVariants.{Bool}
use Rattle.expr_analysis.specs.Nodes.{typed}
use Rattle.expr_analysis.specs.Expressions.{each_of}
use Rattle.expr_analysis.proofs.expressions.truths.Given as goal

abbrev pub invariant-loop-node : goal.invariant-loop-node
invariant-loop-node l = (into_iter_len l.node-iterator ≡ length (into_iter_items l.node-iterator))
    × (each_of (typed Bool) l.all (into_iter_items l.node-iterator) ≡ each_of (typed Bool) [] l.fn.found)
