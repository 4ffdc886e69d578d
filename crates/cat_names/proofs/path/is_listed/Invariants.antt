use Rattle.std.proofs.Common.{◌≡◌, drop}
use Rattle.cat_names.specs.Paths as spec
use Rattle.cat_names.proofs.path.is_listed.Given as goal

abbrev pub invariant-loop-other : goal.invariant-loop-other
invariant-loop-other l = spec.is_listed l.id (drop l.other-index l.ids) ≡ spec.is_listed l.id l.ids
