use Rattle.query_meaning.proofs.Doubles.{kept}
use Rattle.query_meaning.proofs.laws.unique.Goals as goal

pub returns : goal.returns
returns c = λ uniques rows found given. kept uniques rows found given
