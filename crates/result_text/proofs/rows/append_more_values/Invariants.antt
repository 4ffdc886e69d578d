use Rattle.std.proofs.Common.{◌≡◌, ◌++◌, drop}
use Rattle.result_text.specs.Rows.{more_values}
use Rattle.result_text.proofs.rows.append_more_values.Given as goal

-- what was appended, with what is to come
abbrev pub invariant-loop-value : goal.invariant-loop-value
invariant-loop-value l = l.out.items ++ more_values (drop l.value-index l.values) ≡ l.fn.out.items ++ more_values l.values
