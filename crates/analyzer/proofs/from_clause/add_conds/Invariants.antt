use Rattle.std.proofs.Common.{◌≡◌, ◌++◌, length}
use Rattle.std.specs.Vec.Iter.{into_iter_items, into_iter_len}
use Rattle.analyzer.proofs.from_clause.add_conds.Given as goal

abbrev pub invariant-loop-cond : goal.invariant-loop-cond
invariant-loop-cond l = (into_iter_len l.cond-iterator ≡ length (into_iter_items l.cond-iterator))
    × (l.all ++ into_iter_items l.cond-iterator ≡ l.fn.all ++ l.fn.conds)
