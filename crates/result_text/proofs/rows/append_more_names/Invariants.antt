use Rattle.std.proofs.Common.{◌≡◌, ◌++◌, drop}
use Rattle.result_text.specs.Rows.{more_names}
use Rattle.result_text.proofs.rows.append_more_names.Given as goal

-- what was appended, with what is to come
abbrev pub invariant-loop-column : goal.invariant-loop-column
invariant-loop-column l = l.out.items ++ more_names (drop l.column-index l.columns) ≡ l.fn.out.items ++ more_names l.columns
