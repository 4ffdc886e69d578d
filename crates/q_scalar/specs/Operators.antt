-- Which operators there are.
use Rattle.std.specs.Prelude.{Bool, true, false, Option, option_map, if◌then◌else◌}
use Rattle.q_value.specs.declared.value.SqlType.{SqlType}
use Rattle.q_value.specs.declared.value.SqlType.TheVariants as kind
use Rattle.query_tree.specs.Typing.{wider, common_kind}
use Rattle.q_scalar.specs.declared.operators.Op.{Op}
use Rattle.q_scalar.specs.declared.operators.Op.TheVariants as op
use Rattle.q_scalar.specs.declared.operators.OpRow.{OpRow}

abbrev pub is_arithmetic : Op → Bool
is_arithmetic op.Add = true
is_arithmetic op.Subtract = true
is_arithmetic op.Multiply = true
is_arithmetic op.Divide = true
is_arithmetic comparison = false

-- arithmetic in the wider of two types of integers; comparisons besides of two texts and of two booleans
abbrev pub op_row : Op → SqlType → SqlType → Option OpRow
op_row sign left right = if is_arithmetic sign
    then option_map (λ common. record { common = common; result = common }) (wider left right)
    else option_map (λ common. record { common = common; result = kind.Bool }) (common_kind left right)
