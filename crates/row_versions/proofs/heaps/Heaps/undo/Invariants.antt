use Rattle.std.proofs.Common.{◌≡◌}
use Rattle.row_versions.specs.State.{back}
use Rattle.row_versions.proofs.heaps.Heaps.undo.Given as goal

abbrev pub invariant-loop-turn : goal.invariant-loop-turn
invariant-loop-turn l = l.self ≡ back l._turn l.fn.self
