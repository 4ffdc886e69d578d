use Rattle.analyzer.proofs.Places.{over_changed}
use Rattle.analyzer.proofs.statements.analyse_insert.Goals as goal

pub returns : goal.returns
returns c = over_changed _ _ _ _ c.insert_over.ensures
