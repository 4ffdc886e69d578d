use Rattle.std.proofs.Common.{◌≡◌, drop, ◌++◌}
use Rattle.cat_commands.specs.Keys as spec
use Rattle.cat_commands.proofs.keys.add_column_keys.Given as goal

abbrev pub invariant-loop-kind : goal.invariant-loop-kind
invariant-loop-kind l = l.keys ++ spec.column_keys l.column.name (drop l.kind-index l.column.keys) ≡ l.fn.keys ++ spec.column_keys l.column.name l.column.keys
