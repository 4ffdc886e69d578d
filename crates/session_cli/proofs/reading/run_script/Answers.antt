use Rattle.std.proofs.Common.{[], false, length, Err, sym, ap, subst, arith}
use Rattle.std.proofs.lemmas.Option.{IfSome_then}
use Rattle.session_cli.specs.declared.status.Status.TheVariants as status
use Rattle.session_cli.specs.Headline.{Outcome}
use Rattle.session_cli.specs.Turns.{Progress, start}
use Rattle.session_cli.proofs.Course.{told, progress_none, outcome_of, outcome_no_memory, paused, outcome_read_fault, outcome_unfed, progress_more}
use Rattle.session_cli.proofs.Pieces.{Appends-none}
use Rattle.session_cli.proofs.reading.run_script.Goals as goal

pub returns-in_default-clause-outcome : goal.returns-in_default-clause-outcome
returns-in_default-clause-outcome g c =
    let left = g.S.Source.left c.args.source.now in
    let written = g.K.Sink.written c.args.sink.now in
    told {P = λ script. Outcome status.NoMemory c.args.options script left written written} left (λ script e.
    outcome_no_memory (progress_none c.args.options script left written e (Appends-none written)) left)

pub loop-status-init : goal.loop-status-init
loop-status-init g c =
    let left = g.S.Source.left c.args.source.now in
    let written = g.K.Sink.written c.args.sink.now in
    let fresh = c.new-splitter.ensures in
    let session = c.in-Ok.ensures in
    record {
      progress = told {P = λ script. Progress c.args.options script left c.new-splitter.result c.in-Ok.session.state written written} left (λ script e.
          subst (λ x. Progress c.args.options script left x c.in-Ok.session.state written written) (sym fresh)
          (subst (λ x. Progress c.args.options script left (start [] false) x written written) (sym (ap (λ s. s.state) session)) (progress_none c.args.options script left written e (Appends-none written))));
      few = omega (arith, ap (λ s. s.ran) session);
      limit = omega (arith, ap (λ x. x.taken) fresh, ap (λ x. length x.fed) fresh);
      source_later = omega arith;
      sink_later = omega arith;
    }

pub returns-in-Ended-clause-outcome : goal.returns-in-Ended-clause-outcome
returns-in-Ended-clause-outcome g c =
    let left = g.S.Source.left c.loop-status.source in
    let old = g.K.Sink.written c.args.sink.now in
    let written = g.K.Sink.written c.run_commands-turn.new.sink in
    IfSome_then (g.S.Source.left c.args.source.now) {P = λ script. Progress c.args.options script left c.loop-status.splitter c.loop-status.session.state old (g.K.Sink.written c.loop-status.sink)} {Q = λ script. Outcome c.in-Ended.status c.args.options script left old written} c.loop-status.invariant.progress (λ script p.
    outcome_of p c.in-Ended.status written c.in-Ended.ensures.turn)

pub loop-status-preserved : goal.loop-status-preserved
loop-status-preserved g c =
    let few = c.run_commands-turn.ensures.few c.in-More.is in
    let limit = c.run_commands-turn.ensures.limit c.in-More.is in
    let old = g.K.Sink.written c.args.sink.now in
    record {
      progress =
          IfSome_then (g.S.Source.left c.args.source.now) {P = λ script. Progress c.args.options script (g.S.Source.left c.loop-status.source) c.loop-status.splitter c.loop-status.session.state old (g.K.Sink.written c.loop-status.sink)} {Q = λ script. Progress c.args.options script (g.S.Source.left c.read_piece.new.source) c.read_piece.new.splitter c.run_commands-turn.new.session.state old (g.K.Sink.written c.run_commands-turn.new.sink)} c.loop-status.invariant.progress (λ script p.
          progress_more (paused p c.in-More.ensures.turn) c.in-Ok-read_piece.ensures.read);
      few = omega (arith, few, c.in-Ok-read_piece.ensures.taken);
      limit = omega (arith, limit, c.in-Ok-read_piece.ensures.taken, c.in-Ok-read_piece.ensures.grows);
      source_later = omega (arith, c.in-Ok-read_piece.ensures.later, c.loop-status.invariant.source_later);
      sink_later = omega (arith, c.run_commands-turn.ensures.later, c.loop-status.invariant.sink_later);
    }

pub returns-in-Err-NoMemory-clause-outcome : goal.returns-in-Err-NoMemory-clause-outcome
returns-in-Err-NoMemory-clause-outcome g c =
    let left2 = g.S.Source.left c.read_piece.new.source in
    let old = g.K.Sink.written c.args.sink.now in
    let written = g.K.Sink.written c.run_commands-turn.new.sink in
    IfSome_then (g.S.Source.left c.args.source.now) {P = λ script. Progress c.args.options script (g.S.Source.left c.loop-status.source) c.loop-status.splitter c.loop-status.session.state old (g.K.Sink.written c.loop-status.sink)} {Q = λ script. Outcome status.NoMemory c.args.options script left2 old written} c.loop-status.invariant.progress (λ script p.
    outcome_unfed (paused p c.in-More.ensures.turn) left2)

pub returns-in-Err-Fault-clause-outcome : goal.returns-in-Err-Fault-clause-outcome
returns-in-Err-Fault-clause-outcome g c =
    let left2 = g.S.Source.left c.read_piece.new.source in
    let old = g.K.Sink.written c.args.sink.now in
    let written = g.K.Sink.written c.run_commands-turn.new.sink in
    IfSome_then (g.S.Source.left c.args.source.now) {P = λ script. Progress c.args.options script (g.S.Source.left c.loop-status.source) c.loop-status.splitter c.loop-status.session.state old (g.K.Sink.written c.loop-status.sink)} {Q = λ script. Outcome status.ReadFault c.args.options script left2 old written} c.loop-status.invariant.progress (λ script p.
    outcome_read_fault (paused p c.in-More.ensures.turn) left2 (c.in-Err-Fault.ensures.kept (ap Err c.in-Err-Fault.field-0-is)))
