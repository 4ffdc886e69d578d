use Rattle.std.proofs.Common.{◌≡◌, take}
use Rattle.query_tree.proofs.target.+copy.Given as goal

abbrev pub invariant-copy_operands-loop-target : goal.invariant-copy_operands-loop-target
invariant-copy_operands-loop-target l = l.copies ≡ take l.target-index l.target-items
