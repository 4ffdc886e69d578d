use Rattle.std.proofs.Common.{◌≡◌, take}
use Rattle.cat_commands.proofs.alter.copy_index.Given as goal

abbrev pub invariant-loop-column : goal.invariant-loop-column
invariant-loop-column l = l.columns ≡ take l.column-index l.index.columns
