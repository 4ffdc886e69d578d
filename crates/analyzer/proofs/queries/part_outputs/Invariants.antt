use Rattle.std.proofs.Common.{◌≡◌, [], length}
use Rattle.std.specs.Vec.Iter.{into_iter_items, into_iter_len}
use Rattle.analyzer.proofs.Owned.{split_so_far}
use Rattle.analyzer.proofs.queries.part_outputs.Given as goal

abbrev pub invariant-loop-output : goal.invariant-loop-output
invariant-loop-output l = (into_iter_len l.output-iterator ≡ length (into_iter_items l.output-iterator))
    × (split_so_far l.targets l.columns (into_iter_items l.output-iterator) ≡ split_so_far [] [] l.fn.outputs)
