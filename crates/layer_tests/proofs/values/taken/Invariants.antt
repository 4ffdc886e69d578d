use Rattle.std.proofs.Common.{◌≡◌, ◌++◌}
use Rattle.layer_tests.proofs.values.taken.Given as goal

-- what was taken and what is left are what was left at first
abbrev pub invariant-loop-turn : goal.invariant-loop-turn
invariant-loop-turn g l = g.F.RowFeed.fits l.feed l.place × (l.taken ++ g.F.RowFeed.rest l.feed l.place ≡ g.F.RowFeed.rest l.fn.feed l.place)
