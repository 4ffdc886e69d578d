use Rattle.std.proofs.Common.{arith}
use Rattle.std.proofs.lemmas.Bool.Decides.{nat_tests}
use Rattle.plan_invalid.specs.Sources.{marked}
use Rattle.plan_invalid.proofs.Slots.{same_as_map}
use Rattle.plan_invalid.proofs.source.mark_all.Goals as goal

pub returns : goal.returns
returns c = same_as_map marked _ _ c.loop-key.invariant.long (λ key within. let here = c.loop-key.invariant.each key in grind (arith, nat_tests, here))
