use Rattle.std.proofs.Common.{◌+◌, ◌-◌, ◌*◌, ◌^◌, ◌≤◌, length, if◌then◌else◌, IfSome}
use Rattle.session_cli.specs.Turns.{Progress}
use Rattle.session_cli.proofs.reading.run_script.Given as goal

-- the commands that were read have run, but for what the last piece added
abbrev pub invariant-loop-status : goal.invariant-loop-status
invariant-loop-status g l = record {
  progress : IfSome (g.S.Source.left l.fn.source) (λ script. Progress l.options script (g.S.Source.left l.source) l.splitter l.session.state (g.K.Sink.written l.fn.sink) (g.K.Sink.written l.sink));
  few : l.session.ran ≤ l.splitter.taken;
  limit : l.splitter.taken + length l.splitter.fed ≤ 2 ^ 30 + 4096;
  source_later : g.S.Source.faults l.fn.source ≤ g.S.Source.faults l.source;
  sink_later : g.K.Sink.faults l.fn.sink ≤ g.K.Sink.faults l.sink;
}

-- the bytes up to the limit, twice, and whether the end is still to come
abbrev pub decreases-loop-status : goal.decreases-loop-status
decreases-loop-status g l = 2 * (2 ^ 30 + 4097 - (l.splitter.taken + length l.splitter.fed)) + (if l.splitter.over then 0 else 1)
