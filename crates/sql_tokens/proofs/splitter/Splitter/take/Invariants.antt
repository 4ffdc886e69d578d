use Rattle.std.proofs.Common.{◌≡◌, ◌+◌, ◌≤◌, length}
use Rattle.sql_tokens.specs.Splitting.{SameTake}
use Rattle.sql_tokens.proofs.splitter.Splitter.take.Given as goal

-- the texts passed so far make no difference to what a take gives
abbrev pub invariant-loop-took : goal.invariant-loop-took
invariant-loop-took l = record {
  same : SameTake l.fn.self l.self;
  total : l.self.taken + length l.self.fed ≡ l.fn.self.taken + length l.fn.self.fed;
  grows : l.fn.self.taken ≤ l.self.taken;
}

abbrev pub decreases-loop-took : goal.decreases-loop-took
decreases-loop-took l = length l.self.fed
