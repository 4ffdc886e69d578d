use Rattle.std.proofs.Common.{List, ap, ◌∙◌}
use Rattle.q_base.specs.Tables.{value_of}
use Rattle.q_value.specs.declared.value.SqlType.{SqlType}
use Rattle.q_scalar.specs.declared.operators.Op.{Op}
use Rattle.q_scalar.specs.declared.operators.OpRow.{OpRow}
use Rattle.q_scalar.proofs.Rows.{key_cmp, answered}
use Rattle.q_scalar.proofs.operators.find_op.Goals as goal

pub returns : goal.returns
returns c =
    let whole = ap (λ (rows : List ((Op × SqlType × SqlType) × OpRow)). value_of key_cmp (c.args.op, c.args.left, c.args.right) rows) c.new-table.ensures in
    c.copied.ensures ∙ c.find.ensures.value ∙ whole ∙ answered c.args.op c.args.left c.args.right
