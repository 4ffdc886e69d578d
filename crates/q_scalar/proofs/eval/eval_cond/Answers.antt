use Rattle.q_scalar.proofs.Stops.{known_sure}
use Rattle.q_scalar.proofs.eval.eval_cond.Goals as goal

pub returns-clause-sure : goal.returns-clause-sure
returns-clause-sure c = λ plain. let whole = known_sure _ (c.faults.ensures c.args.cond.now c.args.row.now c.args.params.now plain) in cc
