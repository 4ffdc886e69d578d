use Rattle.std.proofs.Common.{◌≡◌, drop, []}
use Rattle.cat_names.specs.Paths as spec
use Rattle.cat_names.proofs.path.effective.Given as goal

abbrev pub invariant-loop-name : goal.invariant-loop-name
invariant-loop-name l = spec.with_path l.schemas l.found (drop l.name-index l.path) ≡ spec.with_path l.schemas [] l.path
