use Rattle.query_tree.proofs.Faults.{sure}
use Rattle.query_tree.proofs.laws.faults.Goals as goal

pub returns : goal.returns
returns c = λ target row params. sure row params target
