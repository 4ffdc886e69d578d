use Rattle.std.proofs.Common.{◌≡◌, drop}
use Rattle.analyzer.specs.Changes.{is_even}
use Rattle.analyzer.proofs.changes.is_even.Given as goal

abbrev pub invariant-loop-row : goal.invariant-loop-row
invariant-loop-row l = is_even l.length (drop l.row-index l.rows) ≡ is_even l.length l.rows
