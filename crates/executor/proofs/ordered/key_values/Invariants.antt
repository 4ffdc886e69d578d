use Rattle.std.proofs.Common.{◌≡◌, [], drop}
use Rattle.executor.specs.Sorts.{keys_from}
use Rattle.executor.proofs.ordered.key_values.Given as goal

abbrev pub invariant-loop-key : goal.invariant-loop-key
invariant-loop-key l = keys_from l.values (drop l.key-index l.keys) l.row l.params ≡ keys_from [] l.keys l.row l.params
