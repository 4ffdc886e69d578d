use Rattle.std.proofs.Common.{ap, ◌∙◌}
use Rattle.savepoints.specs.Settings.{back}
use Rattle.savepoints.proofs.Marks.{back_more}
use Rattle.savepoints.proofs.settings.Settings.undo.Goals as goal

pub loop-turn-preserved : goal.loop-turn-preserved
loop-turn-preserved c = c.undo_last.ensures ∙ ap (back 1) c.loop-turn.invariant ∙ back_more c.loop-turn._turn c.args.self.now
