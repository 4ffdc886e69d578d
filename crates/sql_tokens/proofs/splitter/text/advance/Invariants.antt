use Rattle.std.proofs.Common.{◌≡◌, ◌+◌, ◌≤◌, Some, take}
use Rattle.sql_tokens.specs.Places.{depth_of, place_after}
use Rattle.sql_tokens.proofs.splitter.text.advance.Given as goal

abbrev pub invariant-loop-count : goal.invariant-loop-count
invariant-loop-count l = record {
  reached : place_after l.fn.start (take l.count l.bytes) ≡ Some l.place;
  depth : depth_of l.place ≤ depth_of l.fn.start + l.count;
}
