use Rattle.std.proofs.Common.{◌≡◌, ◌+◌, ◌≤◌, length}
use Rattle.sql_tokens.specs.Tokens.{after_block}
use Rattle.sql_tokens.proofs.lexer.comments.after_block.Given as goal

-- the comment ends where its rest ends, and each open `/*` was read
abbrev pub invariant-loop-rest : goal.invariant-loop-rest
invariant-loop-rest l = record {
  same : after_block l.nested l.rest ≡ after_block 0 l.fn.characters;
  few : l.nested + length l.rest ≤ length l.fn.characters;
}

abbrev pub decreases-loop-rest : goal.decreases-loop-rest
decreases-loop-rest l = length l.rest
