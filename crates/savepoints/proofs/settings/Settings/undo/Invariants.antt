use Rattle.std.proofs.Common.{◌≡◌}
use Rattle.savepoints.specs.Settings.{back}
use Rattle.savepoints.proofs.settings.Settings.undo.Given as goal

abbrev pub invariant-loop-turn : goal.invariant-loop-turn
invariant-loop-turn l = l.self ≡ back l._turn l.fn.self
