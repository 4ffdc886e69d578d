use Rattle.std.proofs.Common.{◌≡◌, ◌+◌, ◌≤◌}
use Rattle.row_versions.specs.Marks.{Mark}
use Rattle.row_versions.specs.State.{Stands}
use Rattle.container_bench.proofs.rows.update.Given as goal

-- each turn takes one snapshot
abbrev pub invariant-loop-number : goal.invariant-loop-number
invariant-loop-number l = record {
  newest : l.heaps.newest ≤ l.fn.heaps.newest + l.number;
  pins : l.heaps.pins ≡ l.fn.heaps.pins;
  marks : (mark : Mark) → Stands l.fn.heaps mark → Stands l.heaps mark;
}
