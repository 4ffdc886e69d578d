use Rattle.std.proofs.Common.{◌≡◌, drop, reverse, length}
use Rattle.row_versions.specs.Versions.{shown_in}
use Rattle.row_versions.proofs.slot.Slot.shown.Given as goal

-- neither the newest version nor those passed are shown
abbrev pub invariant-loop-passed : goal.invariant-loop-passed
invariant-loop-passed l = record {
  count : l.count ≡ length l.self-inside.older.items;
  rest : shown_in (drop l.passed (reverse l.self-inside.older.items)) l.moment ≡ shown_in l.self l.moment;
}
