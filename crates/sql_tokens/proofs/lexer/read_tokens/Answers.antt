use Rattle.std.proofs.Common.{◌<◌, ◌-◌, ◌+◌, length, sym, ◌∙◌, arith}
use Rattle.std.proofs.lemmas.Result.{err_from_is_err_and}
use Rattle.sql_tokens.proofs.TokensLemmas.{tokens_turn, tokens_stopped}
use Rattle.sql_tokens.proofs.lexer.read_tokens.Goals as goal

pub loop-turn-preserved : goal.loop-turn-preserved
loop-turn-preserved c =
    let some : 0 < length c.loop-turn.rest.now = grind arith in
    sym (tokens_turn (length c.args.characters.now - c.loop-turn._turn) (length c.args.characters.now - (c.loop-turn._turn + 1)) _ _ _ _ _ _ _ (omega arith) some c.in_ok-token.ensures c.in_ok-place.ensures.place c.in_ok-place.ensures.found) ∙ c.loop-turn.invariant

pub returns-in_err-token : goal.returns-in_err-token
returns-in_err-token c =
    let p = err_from_is_err_and c.from_residual.result c.from_residual.ensures.1 in
    let some : 0 < length c.loop-turn.rest.now = grind arith in
    rw (p.1, p.2) (tokens_stopped (length c.args.characters.now - c.loop-turn._turn) (length c.args.characters.now - (c.loop-turn._turn + 1)) _ _ _ _ _ (omega arith) some c.loop-turn.invariant c.in_err-token.ensures)
