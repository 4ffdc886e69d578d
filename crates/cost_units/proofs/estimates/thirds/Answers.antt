use Rattle.std.proofs.Common.{rules}
use Rattle.cost_units.proofs.Turns.{one_third}
use Rattle.cost_units.proofs.estimates.thirds.Goals as goal

pub loop-turn-preserved : goal.loop-turn-preserved
loop-turn-preserved c =
    let turn = one_third _ c.loop-turn.left c.args.conds c.loop-turn._turn c.loop-turn-test.true c.loop-turn.invariant in
    search (rules, turn)
