use Rattle.std.proofs.Common.{◌≡◌, drop}
use Rattle.cat_commands.specs.Elements as spec
use Rattle.cat_commands.proofs.elements.check_types.Given as goal

abbrev pub invariant-loop-element : goal.invariant-loop-element
invariant-loop-element l = spec.typed (drop l.element-index l.elements) ≡ spec.typed l.elements
