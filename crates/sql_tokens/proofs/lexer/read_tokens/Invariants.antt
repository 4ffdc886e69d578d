use Rattle.std.proofs.Common.{◌≡◌, ◌-◌, length}
use Rattle.sql_tokens.specs.declared.lexer.Place.TheVariants.{Start}
use Rattle.sql_tokens.specs.Tokens.{tokens_from, tokens_before, ◌>>=◌}
use Rattle.sql_tokens.proofs.lexer.read_tokens.Given as goal

-- the tokens so far, and then those of the rest
abbrev pub invariant-loop-turn : goal.invariant-loop-turn
invariant-loop-turn l = tokens_from (l._turn-end - l._turn) l.place l.rest >>= tokens_before l.found ≡ tokens_from (length l.fn.characters) Start l.fn.characters
