use Rattle.std.proofs.Common.{◌≡◌, [], length}
use Rattle.std.specs.Vec.Iter.{into_iter_items, into_iter_len}
use Rattle.expr_analysis.specs.Nodes.{condition_of}
use Rattle.expr_analysis.specs.Expressions.{each_of}
use Rattle.expr_analysis.proofs.expressions.conditions.Given as goal

abbrev pub invariant-loop-part : goal.invariant-loop-part
invariant-loop-part l = (into_iter_len l.part-iterator ≡ length (into_iter_items l.part-iterator))
    × (each_of (condition_of l.name) l.all (into_iter_items l.part-iterator) ≡ each_of (condition_of l.name) [] l.fn.parts)
