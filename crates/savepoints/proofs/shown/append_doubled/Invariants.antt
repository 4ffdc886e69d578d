use Rattle.std.proofs.Common.{◌≡◌, ◌++◌, drop}
use Rattle.savepoints.specs.Shown.{doubled}
use Rattle.savepoints.proofs.shown.append_doubled.Given as goal

-- what was appended, with what is to come
abbrev pub invariant-loop-byte : goal.invariant-loop-byte
invariant-loop-byte l = l.out.items ++ doubled (drop l.byte-index l.bytes) ≡ l.fn.out.items ++ doubled l.bytes
