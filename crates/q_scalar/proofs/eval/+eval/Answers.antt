use Rattle.std.proofs.Common.{◌∙◌}
use Rattle.q_scalar.proofs.Nodes.{and_value, or_value, in_result}
use Rattle.q_scalar.proofs.eval.+eval.Goals as goal

pub outcome-returns-in-And : goal.outcome-returns-in-And
outcome-returns-in-And t c = let whole = and_value c.in-And.operands c.args.row.now c.args.params.now in cc

pub outcome-returns-in-Or : goal.outcome-returns-in-Or
outcome-returns-in-Or t c = let whole = or_value c.in-Or.operands c.args.row.now c.args.params.now in cc

pub outcome-returns-in-In : goal.outcome-returns-in-In
outcome-returns-in-In t c = in_result _ _ _ _ _ _ _ _ _ c.in-In.is c.get-in-In.ensures c.as_slice-in-In.ensures c.outcome-operand.ensures (c.truth_outcome-in-In.ensures ∙ c.membership.ensures)
