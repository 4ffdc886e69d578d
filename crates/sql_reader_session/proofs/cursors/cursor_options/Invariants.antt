use Rattle.std.proofs.Common.{◌≡◌, ◌-◌}
use Rattle.sql_reader_session.specs.Cursors.{cursor_options, options_from}
use Rattle.sql_reader_session.proofs.cursors.cursor_options.Given as goal

abbrev pub invariant-loop-turn : goal.invariant-loop-turn
invariant-loop-turn l = cursor_options l.fn.cursor ≡ options_from (l._turn-end - l._turn) l.options l.cursor
