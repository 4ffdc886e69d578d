use Rattle.std.proofs.Common.{sym, arith}
use Rattle.row_versions.specs.Stored.{slots_of}
use Rattle.row_versions.proofs.RowOf.{row_of-rows_in}
use Rattle.row_versions.proofs.laws.shown_by_rows.Goals as goal

pub returns : goal.returns
returns c = λ state table slot snap. sym (row_of-rows_in (slots_of table state.tables) slot 0 slot snap (omega arith))
