use Rattle.std.proofs.Common.{◌≡◌, ◌++◌, drop}
use Rattle.result_text.specs.Rows.{row_lines}
use Rattle.result_text.proofs.rows.append_rows.Given as goal

-- what was appended, with what is to come
abbrev pub invariant-loop-row : goal.invariant-loop-row
invariant-loop-row l = l.out.items ++ row_lines (drop l.row-index l.rows) ≡ l.fn.out.items ++ row_lines l.rows
