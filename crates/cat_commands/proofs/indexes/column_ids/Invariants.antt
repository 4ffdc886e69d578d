use Rattle.std.proofs.Common.{◌≡◌, drop, ◌++◌}
use Rattle.cat_commands.specs.Indexes as spec
use Rattle.cat_commands.proofs.indexes.column_ids.Given as goal

abbrev pub invariant-loop-name : goal.invariant-loop-name
invariant-loop-name l = l.ids ++ spec.column_ids l.columns (drop l.name-index l.names) ≡ spec.column_ids l.columns l.names
