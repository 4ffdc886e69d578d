use Rattle.std.proofs.Common.{rules}
use Rattle.portals.proofs.Rows.{down-turn}
use Rattle.portals.proofs.cursor.Cursor.rows_down.Goals as goal

pub loop-step-preserved : goal.loop-step-preserved
loop-step-preserved g c = down-turn c.args.self.now.kept c.args.start c.args.count c.loop-step.step c.loop-step.rows c.push_row.new.rows _ (search rules) (search rules) c.loop-step.invariant
