use Rattle.std.proofs.Common.{◌≡◌, map, drop}
use Rattle.analyzer.specs.Grouping.{ungrouped, first_of}
use Rattle.analyzer.proofs.grouping.+ungrouped.Given as goal

abbrev pub invariant-ungrouped_in-loop-target : goal.invariant-ungrouped_in-loop-target
invariant-ungrouped_in-loop-target l = first_of (map (ungrouped l.keys) (drop l.target-index l.targets)) ≡ first_of (map (ungrouped l.keys) l.targets)
