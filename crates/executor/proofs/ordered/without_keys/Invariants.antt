use Rattle.std.proofs.Common.{◌≡◌, [], length, reverse}
use Rattle.executor.specs.Sorts.{unkeyed}
use Rattle.executor.proofs.ordered.without_keys.Given as goal

abbrev pub invariant-loop-row : goal.invariant-loop-row
invariant-loop-row l = unkeyed l.found.items (reverse l.rows) ≡ unkeyed [] (reverse l.initial.rows)

abbrev pub decreases-loop-row : goal.decreases-loop-row
decreases-loop-row l = length l.rows
