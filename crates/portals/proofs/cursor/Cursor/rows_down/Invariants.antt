use Rattle.std.proofs.Common.{◌≡◌, ◌-◌, ◌++◌}
use Rattle.portals.specs.Walks.{rows_down}
use Rattle.portals.proofs.cursor.Cursor.rows_down.Given as goal

abbrev pub invariant-loop-step : goal.invariant-loop-step
invariant-loop-step g l = l.rows ++ rows_down l.self.kept (l.start - l.step) (l.count - l.step) ≡ rows_down l.self.kept l.start l.count
