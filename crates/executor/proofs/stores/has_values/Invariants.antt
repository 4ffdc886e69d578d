use Rattle.std.proofs.Common.{◌≡◌, drop}
use Rattle.executor.specs.Scans.{has_key_from}
use Rattle.executor.proofs.stores.has_values.Given as goal

abbrev pub invariant-loop-at : goal.invariant-loop-at
invariant-loop-at l = has_key_from l.at (drop l.at l.columns) l.row l.key ≡ has_key_from 0 l.columns l.row l.key
