use Rattle.std.proofs.Common.{◌≡◌, ◌++◌, replicate}
use Rattle.expr_analysis.specs.declared.state.Known.TheVariants.{Unused}
use Rattle.expr_analysis.proofs.state.KnownList.reach.Given as goal

abbrev pub invariant-loop-turn : goal.invariant-loop-turn
invariant-loop-turn l = l.self-inside.items.items ≡ l.fn.self ++ replicate l._turn Unused
