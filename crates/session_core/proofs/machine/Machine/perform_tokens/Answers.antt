use Rattle.std.specs.Prelude.{Ok, Err, refl}
use Rattle.std.proofs.lemmas.Result.{err_from_is_err_and}
use Rattle.sql_reader.specs.Grammar.{IsRead}
use Rattle.session_core.specs.Machine.{Reads, Runs}
use Rattle.session_core.proofs.Steps.{does_as, does_refuse}
use Rattle.session_core.proofs.machine.Machine.perform_tokens.Goals as goal

pub returns-in_err-command : goal.returns-in_err-command
returns-in_err-command t c =
    let p = err_from_is_err_and c.from_residual.result c.from_residual.ensures.1 in
    rw (p.1, p.2) (does_refuse (λ error. IsRead c.args.tokens.now (Err error)) (Reads c.args.self.now (Ok c.args.tokens.now)) c.args.out.now.items c.args.self.now c.in_err-command.field-0.0 (λ error read. (Err error, read, (refl, refl))) c.in_err-command.ensures)

pub returns : goal.returns
returns t c = does_as (Runs c.args.self.now.block c.args.self.now c.in_ok-command.command) (Reads c.args.self.now (Ok c.args.tokens.now)) _ _ _ c.run.result (λ outcome p. (Ok c.in_ok-command.command, c.in_ok-command.ensures, p)) c.run.ensures
