use Rattle.std.proofs.Common.{◌≡◌, false}
use Rattle.reader_tests.proofs.splitting.run.Given as goal

abbrev pub invariant-loop-piece : goal.invariant-loop-piece
invariant-loop-piece l = l.splitter.over ≡ false
