use Rattle.std.proofs.Common.{◌≡◌, drop}
use Rattle.cat_commands.specs.Keys as spec
use Rattle.cat_commands.proofs.keys.is_in_primary.Given as goal

abbrev pub invariant-loop-element : goal.invariant-loop-element
invariant-loop-element l = spec.is_in_primary l.name (drop l.element-index l.elements) ≡ spec.is_in_primary l.name l.elements
