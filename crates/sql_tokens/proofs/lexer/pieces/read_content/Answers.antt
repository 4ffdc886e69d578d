use Rattle.std.proofs.Common.{sym, ◌∙◌, arith}
use Rattle.sql_tokens.proofs.TokensLemmas.{content_turn}
use Rattle.sql_tokens.proofs.lexer.pieces.read_content.Goals as goal

pub loop-rest-preserved : goal.loop-rest-preserved
loop-rest-preserved c =
    sym (content_turn c.args.quote c.first-item.result c.loop-rest.rest.now c.in-Some.after.now _ _ (omega arith) c.first-item.is c.in-Some.ensures c.in_ok-push.ensures.bytes) ∙ c.loop-rest.invariant
