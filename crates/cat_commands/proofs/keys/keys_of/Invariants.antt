use Rattle.std.proofs.Common.{◌≡◌, drop, ◌++◌}
use Rattle.cat_commands.specs.Keys as spec
use Rattle.cat_commands.proofs.keys.keys_of.Given as goal

abbrev pub invariant-loop-element : goal.invariant-loop-element
invariant-loop-element l = l.keys ++ spec.keys_of (drop l.element-index l.elements) ≡ spec.keys_of l.elements
