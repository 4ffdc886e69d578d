use Rattle.std.proofs.Common.{◌∙◌}
use Rattle.executor.specs.Lists.{projected}
use Rattle.executor.specs.Rest.{left_at}
use Rattle.executor.proofs.Firsts.{one_skipped}
use Rattle.executor.proofs.run.skip_rows.Goals as goal

pub loop-skipped-preserved : goal.loop-skipped-preserved
loop-skipped-preserved c =
    let given = rw c.in-Some.is at c.in_ok-pull.ensures in
    let one = one_skipped c.args.skip c.loop-skipped._skipped c.in-Some.field-0 (projected c.args.targets.now c.args.params.now (left_at c.args.stores.now c.args.snap c.args.params.now c.loop-skipped.state)) (projected c.args.targets.now c.args.params.now (left_at c.args.stores.now c.args.snap c.args.params.now c.pull.new.state)) c.loop-skipped-test.true given in
    one ∙ c.loop-skipped.invariant
