use Rattle.std.proofs.Common.{◌≡◌, None, drop}
use Rattle.savepoints.specs.Blocks.{newest}
use Rattle.savepoints.proofs.transaction.newest.Given as goal

-- no savepoint from here on has the name
abbrev pub invariant-loop-index : goal.invariant-loop-index
invariant-loop-index g l = newest l.name (drop l.index l.savepoints) ≡ None
