use Rattle.std.proofs.Common.{◌≡◌, ◌+◌, ◌-◌, IfSome, false}
use Rattle.portals.proofs.Pulling.{Pulling}
use Rattle.portals.proofs.cursor.Cursor.pull_to.Given as goal

abbrev pub invariant-loop-turn : goal.invariant-loop-turn
invariant-loop-turn g l =
    Pulling (λ feed. g.F.RowFeed.rest feed l.place) l.goal l.fn.self l.self l._turn
    × IfSome l.self.feed (λ feed. g.F.RowFeed.fits feed l.place)
    × (l.self.failed ≡ false)
    × (l.work ≡ record l.fn.work { pulls = l.fn.work.pulls + (l.self.reach - l.fn.self.reach) })
