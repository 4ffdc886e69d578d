use Rattle.std.proofs.Common.{◌≡◌, drop}
use Rattle.cat_core.specs.Finding.{entries}
use Rattle.cat_commands.specs.Alter as spec
use Rattle.cat_commands.proofs.alter.check_all_free.Given as goal

abbrev pub invariant-loop-index : goal.invariant-loop-index
invariant-loop-index l = spec.all_free l.names l.schema (entries (drop l.index-index l.indexes)) ≡ spec.all_free l.names l.schema (entries l.indexes)
