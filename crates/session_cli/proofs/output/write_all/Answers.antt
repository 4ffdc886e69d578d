use Rattle.std.proofs.Common.{arith}
use Rattle.session_cli.proofs.Pieces.{written_more}
use Rattle.session_cli.proofs.output.write_all.Goals as goal

pub loop-done-preserved : goal.loop-done-preserved
loop-done-preserved g c = record {
  within = omega (arith, c.in-Ok.ensures.count);
  written =
      written_more (g.K.Sink.written c.args.sink.now) (g.K.Sink.written c.loop-done.sink) (g.K.Sink.written c.write.new.self) c.args.bytes.now _ c.loop-done.done c.in-Ok.count c.loop-done.invariant.written c.split_at.ensures.back c.in-Ok.ensures.bytes;
  later = omega (arith, c.in-Ok.ensures.cause.never_falls);
}
