use Rattle.std.proofs.Common.{◌≡◌}
use Rattle.reader_tests.proofs.splitting.drain.Given as goal

abbrev pub invariant-loop-turn : goal.invariant-loop-turn
invariant-loop-turn l = l.splitter.over ≡ l.fn.splitter.over
