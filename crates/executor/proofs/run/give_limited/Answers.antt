use Rattle.std.proofs.Common.{arith}
use Rattle.executor.specs.Cuts.{skipped}
use Rattle.executor.specs.Lists.{projected}
use Rattle.executor.specs.Rest.{left_at}
use Rattle.executor.proofs.Firsts.{limited_first}
use Rattle.executor.proofs.run.give_limited.Goals as goal

pub returns : goal.returns
returns c =
    limited_first c.args.count _ (skipped c.args.skip (projected c.args.targets.now c.args.params.now (left_at c.args.stores.now c.args.snap c.args.params.now c.args.state.now))) (projected c.args.targets.now c.args.params.now (left_at c.args.stores.now c.args.snap c.args.params.now c.pull_behind.new.state)) c.pull_behind.result (omega arith) c.pull_behind.ensures
