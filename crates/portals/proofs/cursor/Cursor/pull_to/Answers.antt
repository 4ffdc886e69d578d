use Rattle.std.proofs.Common.{rules, arith}
use Rattle.portals.proofs.Pulling.{pulling-row, pulling-end, pulling-fault, pulling-all}
use Rattle.portals.proofs.cursor.Cursor.pull_to.Goals as goal

pub returns-in-End-clause-pulled : goal.returns-in-End-clause-pulled
returns-in-End-clause-pulled g c = pulling-end _ _ _ _ _ _ c.loop-turn.invariant.0 (search rules) (search rules)

pub returns-in-Fault-clause-pulled : goal.returns-in-Fault-clause-pulled
returns-in-Fault-clause-pulled g c = pulling-fault _ _ _ _ _ _ c.loop-turn.invariant.0 _ (search rules) (search rules)

pub loop-turn-preserved : goal.loop-turn-preserved
loop-turn-preserved g c = (pulling-row _ _ _ _ _ _ c.loop-turn.invariant.0 (search rules) (search rules), search rules, search rules, search (rules, arith))

pub returns-clause-pulled : goal.returns-clause-pulled
returns-clause-pulled g c = pulling-all _ _ _ _ _ c.loop-turn.invariant.0 (search rules)
