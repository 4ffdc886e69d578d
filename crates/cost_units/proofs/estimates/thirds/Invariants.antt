use Rattle.std.proofs.Common.{◌≡◌, ◌-◌}
use Rattle.cost_units.specs.Estimates.{thirds}
use Rattle.cost_units.proofs.estimates.thirds.Given as goal

-- the thirds that are still to come, of what is left, are all thirds
abbrev pub invariant-loop-turn : goal.invariant-loop-turn
invariant-loop-turn l = thirds l.left (l.conds - l._turn) ≡ thirds l.rows l.conds
