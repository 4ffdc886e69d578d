use Rattle.std.proofs.Common.{◌≡◌, drop, ◌++◌}
use Rattle.cat_commands.specs.Indexes as spec
use Rattle.cat_commands.proofs.indexes.add_ids.Given as goal

abbrev pub invariant-loop-column : goal.invariant-loop-column
invariant-loop-column l = l.ids ++ spec.ids_named l.name (drop l.column-index l.columns) ≡ l.fn.ids ++ spec.ids_named l.name l.columns
