use Rattle.std.proofs.Common.{rules}
use Rattle.portals.proofs.Rows.{up-turn}
use Rattle.portals.proofs.cursor.Cursor.rows_up.Goals as goal

pub loop-step-preserved : goal.loop-step-preserved
loop-step-preserved g c = up-turn c.args.self.now.kept c.args.start c.args.count c.loop-step.step c.loop-step.rows c.push_row.new.rows _ (search rules) (search rules) c.loop-step.invariant
