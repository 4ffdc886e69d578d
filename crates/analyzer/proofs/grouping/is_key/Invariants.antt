use Rattle.std.proofs.Common.{◌≡◌, drop}
use Rattle.analyzer.specs.Grouping.{is_key}
use Rattle.analyzer.proofs.grouping.is_key.Given as goal

abbrev pub invariant-loop-key : goal.invariant-loop-key
invariant-loop-key l = is_key (drop l.key-index l.keys) l.column ≡ is_key l.keys l.column
