use Rattle.std.proofs.Common.{arith}
use Rattle.sql_tokens.proofs.SpellingWhole.{spelt_by}
use Rattle.sql_tokens.proofs.lexer.tokens.Goals as goal

pub returns-clause-spelt : goal.returns-clause-spelt
returns-clause-spelt c = spelt_by c.args.text.now c.as_slice.result.now c.read_tokens.result (grind arith) c.read_tokens.ensures
