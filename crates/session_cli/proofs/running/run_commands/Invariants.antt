use Rattle.std.proofs.Common.{◌≡◌, ◌+◌, ◌≤◌, length}
use Rattle.session_cli.specs.Turns.{Advances}
use Rattle.session_cli.proofs.running.run_commands.Given as goal

-- the commands so far were run
abbrev pub invariant-loop-text : goal.invariant-loop-text
invariant-loop-text g l = record {
  advances : Advances l.stop l.fn.splitter l.splitter l.fn.session.state l.session.state (g.K.Sink.written l.fn.sink) (g.K.Sink.written l.sink);
  total : l.splitter.taken + length l.splitter.fed ≡ l.fn.splitter.taken + length l.fn.splitter.fed;
  few : l.session.ran ≤ l.splitter.taken;
  later : g.K.Sink.faults l.fn.sink ≤ g.K.Sink.faults l.sink;
}

abbrev pub decreases-loop-text : goal.decreases-loop-text
decreases-loop-text g l = length l.splitter.fed
