use Rattle.std.proofs.Common.{◌≡◌, ◌++◌, drop}
use Rattle.savepoints.specs.Given.{path_of}
use Rattle.savepoints.proofs.given.path_of.Given as goal

-- the names so far, with those to come
abbrev pub invariant-loop-one : goal.invariant-loop-one
invariant-loop-one l = l.path ++ path_of (drop l.one-index l.written) ≡ path_of l.written
