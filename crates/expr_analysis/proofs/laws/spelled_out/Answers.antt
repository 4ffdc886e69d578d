use Rattle.expr_analysis.proofs.Spelled as spelled
use Rattle.expr_analysis.proofs.laws.spelled_out.Goals as goal

pub returns-clause-member : goal.returns-clause-member
returns-clause-member c = spelled.member

pub returns-clause-range : goal.returns-clause-range
returns-clause-range c = spelled.range
