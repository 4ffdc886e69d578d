use Rattle.portals.specs.Cursors.{AllFit}
use Rattle.portals.proofs.portals.Portals.hold_all.Given as goal

abbrev pub invariant-loop-at : goal.invariant-loop-at
invariant-loop-at g l = AllFit (λ feed. g.F.RowFeed.fits feed l.place) l.self.cursors
