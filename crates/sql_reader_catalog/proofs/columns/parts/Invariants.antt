use Rattle.std.proofs.Common.{◌≡◌, ◌-◌}
use Rattle.sql_reader_catalog.specs.Columns as spec
use Rattle.sql_reader_catalog.proofs.columns.parts.Given as goal

abbrev pub invariant-loop-turn : goal.invariant-loop-turn
invariant-loop-turn l = spec.parts l.keyed l.fn.bare l.fn.cursor ≡ spec.parts_from l.keyed (l._turn-end - l._turn) l.def l.cursor
