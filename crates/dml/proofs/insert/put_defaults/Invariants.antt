use Rattle.std.proofs.Common.{◌≡◌, drop}
use Rattle.dml.specs.Rows.{with_defaults}
use Rattle.dml.proofs.insert.put_defaults.Given as goal

abbrev pub invariant-loop-given : goal.invariant-loop-given
invariant-loop-given l = with_defaults l.row.items (drop l.given-index l.defaults) l.params ≡ with_defaults l.fn.row.items l.defaults l.params
