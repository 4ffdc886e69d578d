use Rattle.std.proofs.Common.{◌≡◌, map, take}
use Rattle.view_rewrite.specs.Changed.{changed}
use Rattle.view_rewrite.proofs.changed.+changed.Given as goal

abbrev pub invariant-changed_operands-loop-operand : goal.invariant-changed_operands-loop-operand
invariant-changed_operands-loop-operand l = l.copies ≡ map (changed l.change.meanings.now l.change.width) (take l.operand-index l.operand-items)
