use Rattle.query_meaning.proofs.Connectives.{range_is}
use Rattle.query_meaning.proofs.laws.range.Goals as goal

pub returns : goal.returns
returns c = λ operand low high row params. range_is row params operand low high
