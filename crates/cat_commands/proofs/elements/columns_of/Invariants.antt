use Rattle.std.proofs.Common.{◌≡◌, ◌-◌, ◌^◌, [], drop, length, min}
use Rattle.cat_commands.specs.Elements as spec
use Rattle.cat_commands.proofs.elements.columns_of.Given as goal

abbrev pub invariant-loop-element : goal.invariant-loop-element
invariant-loop-element l = record {
  next : l.next ≡ min (length l.columns) (2 ^ 32 - 1);
  same : spec.columns_from l.elements l.columns (drop l.element-index l.elements) ≡ spec.columns_from l.elements [] l.elements;
}
