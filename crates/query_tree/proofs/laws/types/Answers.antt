use Rattle.query_tree.proofs.Types as types
use Rattle.query_tree.proofs.laws.types.Goals as goal

pub returns-clause-told : goal.returns-clause-told
returns-clause-told c = λ columns params kind target typed. types.told columns params target kind typed

pub returns-clause-values : goal.returns-clause-values
returns-clause-values c = λ columns kinds kind target row params typed fits given. types.typed_value columns kinds row params fits given target kind typed
