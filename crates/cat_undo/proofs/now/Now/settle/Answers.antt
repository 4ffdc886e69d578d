use Rattle.std.proofs.Common.{◌∙◌}
use Rattle.cat_undo.proofs.Restoring.{settled-more, told_settled-more}
use Rattle.cat_undo.proofs.now.Now.settle.Goals as goal

pub loop-place-preserved : goal.loop-place-preserved
loop-place-preserved g c = record {
  state = c.settle_at.ensures.state ∙ rw c.loop-place.invariant.state (settled-more c.loop-place.place c.args.copied c.args.self.now);
  told = c.settle_at.ensures.told ∙ rw (c.loop-place.invariant.state, c.loop-place.invariant.told) (told_settled-more g.T.Touched.hear c.loop-place.place c.args.copied c.args.self.now c.args.marks.now);
}
