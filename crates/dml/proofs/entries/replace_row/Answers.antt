use Rattle.dml.proofs.Steps.{none_replaced, not_both}
use Rattle.dml.proofs.entries.replace_row.Goals as goal

pub returns-then-not-is_live : goal.returns-then-not-is_live
returns-then-not-is_live c = none_replaced c.shown_by_rows.ensures _ _ _ _ (not_both _ c.if-not-is_live.true c.is_live.ensures.1)
