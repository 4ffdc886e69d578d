use Rattle.query_meaning.proofs.Connectives.{membership_is}
use Rattle.query_meaning.proofs.laws.membership.Goals as goal

pub returns : goal.returns
returns c = λ operand other values row params. membership_is row params operand other values
