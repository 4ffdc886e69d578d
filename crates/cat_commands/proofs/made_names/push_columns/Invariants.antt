use Rattle.std.proofs.Common.{◌≡◌, drop}
use Rattle.std.specs.String.{string_bytes}
use Rattle.cat_commands.specs.MadeNames as spec
use Rattle.cat_commands.proofs.made_names.push_columns.Given as goal

abbrev pub invariant-loop-column : goal.invariant-loop-column
invariant-loop-column l = spec.with_columns (string_bytes l.text) (drop l.column-index l.columns) ≡ spec.with_columns (string_bytes l.fn.text) l.columns
