use Rattle.std.proofs.Common.{◌≤◌}
use Rattle.container_bench.proofs.sources.add.Given as goal

abbrev pub invariant-loop-number : goal.invariant-loop-number
invariant-loop-number l = l.marks.given ≤ l.number
