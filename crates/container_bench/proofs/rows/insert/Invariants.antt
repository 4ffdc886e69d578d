use Rattle.std.proofs.Common.{◌≡◌, ◌≤◌, length}
use Rattle.row_versions.specs.State.{IsAdded}
use Rattle.row_versions.specs.Stored.{slots_of}
use Rattle.container_bench.proofs.rows.insert.Given as goal

-- each turn gives one slot more
abbrev pub invariant-loop-number : goal.invariant-loop-number
invariant-loop-number l = record {
  added : IsAdded l.heaps (record { 0 = 1 });
  few : length (slots_of (record { 0 = 1 }) l.heaps.tables) ≤ l.number;
  newest : l.heaps.newest ≡ l.fn.heaps.newest;
  pins : l.heaps.pins ≡ l.fn.heaps.pins;
}
