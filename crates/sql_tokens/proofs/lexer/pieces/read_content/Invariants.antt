use Rattle.std.proofs.Common.{◌≡◌, length}
use Rattle.std.specs.String.{string_bytes}
use Rattle.sql_tokens.specs.Tokens.{content_at, ◌>>=◌, text_before}
use Rattle.sql_tokens.proofs.lexer.pieces.read_content.Given as goal

-- the content so far, and then that of the rest
abbrev pub invariant-loop-rest : goal.invariant-loop-rest
invariant-loop-rest l = content_at l.quote l.rest >>= text_before (string_bytes l.content) ≡ content_at l.quote l.fn.characters

abbrev pub decreases-loop-rest : goal.decreases-loop-rest
decreases-loop-rest l = length l.rest
