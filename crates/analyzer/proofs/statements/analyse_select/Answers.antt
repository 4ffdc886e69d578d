use Rattle.analyzer.proofs.Places.{over_written}
use Rattle.analyzer.proofs.statements.analyse_select.Goals as goal

pub returns : goal.returns
returns c = over_written _ _ _ _ _ c.as_slice.ensures c.select_items-found.ensures c.select_over.ensures
