use Rattle.std.proofs.Common.{◌≡◌, drop, ◌++◌}
use Rattle.cat_commands.specs.Stats as spec
use Rattle.cat_commands.proofs.stats.each_but.Given as goal

abbrev pub invariant-loop-place : goal.invariant-loop-place
invariant-loop-place l = l.kept ++ spec.each_but l.other l.place (drop l.place l.columns) ≡ spec.each_but l.other 0 l.columns
