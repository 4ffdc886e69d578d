use Rattle.std.proofs.Common.{◌≡◌, drop, ◌++◌}
use Rattle.cat_commands.specs.Elements as spec
use Rattle.cat_commands.proofs.elements.names_of.Given as goal

abbrev pub invariant-loop-element : goal.invariant-loop-element
invariant-loop-element l = l.names ++ spec.names_of (drop l.element-index l.elements) ≡ spec.names_of l.elements
