use Rattle.query_tree.specs.declared.target.CompareOp.TheVariants as compare_op
use Rattle.query_tree.specs.Evaluation.{comparison}
use Rattle.q_scalar.proofs.Nodes.{within_value}
use Rattle.q_scalar.proofs.eval.within.Goals as goal

pub returns : goal.returns
returns c = let whole = within_value (comparison compare_op.GreaterEqual c.args.operand.now c.args.low.now) (comparison compare_op.LessEqual c.args.operand.now c.args.high.now) in cc
