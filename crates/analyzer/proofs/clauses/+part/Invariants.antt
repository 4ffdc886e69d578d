use Rattle.std.proofs.Common.{◌≡◌, ◌++◌, map, drop}
use Rattle.analyzer.specs.Clauses.{parted, conjuncts_of}
use Rattle.analyzer.proofs.clauses.+part.Given as goal

abbrev pub invariant-part_each-loop-operand : goal.invariant-part_each-loop-operand
invariant-part_each-loop-operand l =
    l.found ++ parted (map conjuncts_of (drop l.operand-index l.operands)) (drop l.operand-index l.operands)
    ≡ l.fn.found ++ parted (map conjuncts_of l.operands) l.operands
