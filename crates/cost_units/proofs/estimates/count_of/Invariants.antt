use Rattle.std.proofs.Common.{◌≡◌, drop}
use Rattle.cost_units.specs.Estimates.{count_of}
use Rattle.cost_units.proofs.estimates.count_of.Given as goal

-- none of those before is the value
abbrev pub invariant-loop-candidate : goal.invariant-loop-candidate
invariant-loop-candidate l = count_of l.value (drop l.candidate-index l.common) ≡ count_of l.value l.common
