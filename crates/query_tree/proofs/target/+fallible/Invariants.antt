use Rattle.std.proofs.Common.{◌≡◌, map, drop}
use Rattle.query_tree.specs.Targets.{any_of, is_fallible}
use Rattle.query_tree.proofs.target.+fallible.Given as goal

abbrev pub invariant-any_fallible-loop-target : goal.invariant-any_fallible-loop-target
invariant-any_fallible-loop-target l = any_of (map is_fallible (drop l.target-index l.targets)) ≡ any_of (map is_fallible l.targets)
