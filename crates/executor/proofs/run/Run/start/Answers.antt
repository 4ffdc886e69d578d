use Rattle.std.proofs.Common.{ap, ◌∙◌, map}
use Rattle.std.proofs.lemmas.Result.{IfOk-weaker}
use Rattle.executor.specs.Cuts.{windowed}
use Rattle.executor.specs.Lists.{projected}
use Rattle.executor.specs.Plans.{window_at}
use Rattle.executor.specs.Scans.{scan_of, along_of}
use Rattle.executor.specs.Runs.{outcome_of}
use Rattle.executor.proofs.Walks.{same_list}
use Rattle.executor.proofs.run.Run.start.Goals as goal

pub returns-clause-rest : goal.returns-clause-rest
returns-clause-rest c = IfOk-weaker c.begun.result _ _ (λ run walked stores.
    let block = c.args.plan.value.block in
    let params = c.args.params in
    walked stores ∙ ap (λ rows. map outcome_of (windowed (window_at params block.node) (projected block.targets params rows))) (same_list c.orders.ensures.keys c.orders.ensures.entries (scan_of stores c.args.snap) (along_of stores c.args.snap) params block.node)) c.begun.ensures.rest
