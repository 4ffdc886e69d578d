use Rattle.query_meaning.proofs.Whole.{same}
use Rattle.query_meaning.proofs.laws.whole.Goals as goal

pub returns : goal.returns
returns c = λ query params rows one other whole a b. same query params rows one other whole a b
