use Rattle.std.proofs.Common.{subst, ◌∙◌, arith}
use Rattle.sql_tokens.specs.declared.splitter.took.Took.TheVariants as took
use Rattle.sql_tokens.specs.Splitting.{Takes}
use Rattle.session_core.specs.declared.session.Done.{Done}
use Rattle.session_core.specs.declared.session.Done.TheVariants as done
use Rattle.session_core.specs.Machine.{Step}
use Rattle.session_cli.proofs.Runs.{advances_more, ends_no_memory, ends_halted, ends_stopped, ends_write_fault}
use Rattle.session_cli.proofs.running.run_commands.Goals as goal

pub returns-in-Err-clause-turn : goal.returns-in-Err-clause-turn
returns-in-Err-clause-turn g c = ends_no_memory c.loop-text.invariant.advances

pub returns-in-Err-NoMemory-clause-turn : goal.returns-in-Err-NoMemory-clause-turn
returns-in-Err-NoMemory-clause-turn g c =
    ends_halted c.loop-text.invariant.advances c.in-Ok-Command.text (g.K.Sink.written c.run_command.new.sink) (rw c.in-Err-NoMemory.field-0-is at c.in-Err-NoMemory.ensures.halted)

pub returns-in-Err-WriteFault-clause-turn : goal.returns-in-Err-WriteFault-clause-turn
returns-in-Err-WriteFault-clause-turn g c =
    let takes : Takes (took.Command c.in-Ok-Command.text) c.loop-text.splitter c.take.new.self = rw c.in-Ok-Command.field-0-is at c.in-Ok-Command.ensures.ok in
    ends_write_fault c.loop-text.invariant.advances takes (g.K.Sink.written c.run_command.new.sink) (rw (c.in-Err-WriteFault.field-0-is, c.as_str.ensures) at c.in-Err-WriteFault.ensures.halted)

pub returns-then-ends_run-clause-turn : goal.returns-then-ends_run-clause-turn
returns-then-ends_run-clause-turn g c =
    let takes : Takes (took.Command c.in-Ok-Command.text) c.loop-text.splitter c.take.new.self = rw c.in-Ok-Command.field-0-is at c.in-Ok-Command.ensures.ok in
    let ran = c.in-Ok.ensures.ran in
    let ends = c.ends_run.ensures.ends c.if-ends_run.true in
    let step : Step c.loop-text.session.state c.in-Ok-Command.text done.Refused ran.0 c.run_command.new.session.state =
    subst (λ (e : Done). Step c.loop-text.session.state c.in-Ok-Command.text e ran.0 c.run_command.new.session.state) ends.1 (rw c.as_str.ensures at ran.1) in
    ends_stopped c.loop-text.invariant.advances takes c.run_command.new.session.state ran.0 (g.K.Sink.written c.run_command.new.sink) ends.0 step ran.2

pub loop-text-preserved : goal.loop-text-preserved
loop-text-preserved g c =
    let takes : Takes (took.Command c.in-Ok-Command.text) c.loop-text.splitter c.take.new.self = rw c.in-Ok-Command.field-0-is at c.in-Ok-Command.ensures.ok in
    let bounds = rw c.in-Ok-Command.field-0-is at c.in-Ok-Command.ensures.bounds in
    let ran = c.in-Ok.ensures.ran in
    let step : Step c.loop-text.session.state c.in-Ok-Command.text c.in-Ok.end ran.0 c.run_command.new.session.state = rw c.as_str.ensures at ran.1 in
    record {
      advances = advances_more ran.0 c.loop-text.invariant.advances takes step ran.2 (c.ends_run.ensures.goes_on c.if-ends_run.false);
      total = c.take.ensures.total ∙ c.loop-text.invariant.total;
      few = omega (arith, bounds, c.in-Ok.ensures.count, c.loop-text.invariant.few);
      later = omega (arith, c.in-Ok.ensures.later, c.loop-text.invariant.later);
    }
