use Rattle.std.proofs.Common.{◌≡◌, drop, ◌++◌}
use Rattle.cat_commands.specs.Indexes as spec
use Rattle.cat_commands.proofs.indexes.key_indexes.Given as goal

abbrev pub invariant-loop-key : goal.invariant-loop-key
invariant-loop-key l = l.indexes ++ spec.key_indexes l.table l.columns (drop l.key-index l.keys) ≡ spec.key_indexes l.table l.columns l.keys
