use Rattle.std.proofs.Common.{ap, ◌∙◌}
use Rattle.row_versions.specs.State.{last_undone}
use Rattle.row_versions.proofs.Undone.{back_more}
use Rattle.row_versions.proofs.heaps.Heaps.undo.Goals as goal

pub loop-turn-preserved : goal.loop-turn-preserved
loop-turn-preserved c = c.undo_last.ensures ∙ ap last_undone c.loop-turn.invariant ∙ back_more c.loop-turn._turn c.args.self.now
