use Rattle.std.proofs.Common.{◌≡◌, ◌++◌, drop}
use Rattle.plan_tree.specs.Expressions.{doubled}
use Rattle.plan_tree.proofs.expressions.append_doubled.Given as goal

-- what was appended, with what is to come
abbrev pub invariant-loop-byte : goal.invariant-loop-byte
invariant-loop-byte l = l.out.items ++ doubled (drop l.byte-index l.text) ≡ l.fn.out.items ++ doubled l.text
