use Rattle.std.proofs.Common.{◌≡◌, ◌+◌, drop}
use Rattle.std.specs.List.{prefix_len}
use Rattle.sql_tokens.specs.Tokens.{is_in}
use Rattle.sql_tokens.proofs.lexer.characters.split_run.Given as goal

-- the characters so far are in the class
abbrev pub invariant-loop-at : goal.invariant-loop-at
invariant-loop-at l = l.at + prefix_len (is_in l.class) (drop l.at l.characters) ≡ prefix_len (is_in l.class) l.characters
