use Rattle.std.proofs.Common.{◌≡◌, replicate}
use Rattle.q_value.specs.declared.value.Value.TheVariants.{Null}
use Rattle.dml.proofs.values.nulls.Given as goal

abbrev pub invariant-loop-turn : goal.invariant-loop-turn
invariant-loop-turn l = l.row.items ≡ replicate l._turn Null
