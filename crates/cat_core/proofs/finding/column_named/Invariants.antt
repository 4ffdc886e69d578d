use Rattle.std.proofs.Common.{◌≡◌, drop}
use Rattle.cat_core.specs.Finding as spec
use Rattle.cat_core.proofs.finding.column_named.Given as goal

abbrev pub invariant-loop-column : goal.invariant-loop-column
invariant-loop-column l = spec.column_named (drop l.column-index l.columns) l.name ≡ spec.column_named l.columns l.name
