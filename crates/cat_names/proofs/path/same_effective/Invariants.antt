use Rattle.std.proofs.Common.{◌≡◌, ◌≤◌, drop, take, length, []}
use Rattle.cat_names.specs.Paths as spec
use Rattle.cat_names.proofs.path.same_effective.Given as goal

abbrev pub invariant-loop-name : goal.invariant-loop-name
invariant-loop-name l = record {
  met : l.count ≤ length l.kept;
  same : spec.with_path l.schemas (take l.count l.kept) (drop l.name-index l.path) ≡ spec.with_path l.schemas [] l.path;
}
