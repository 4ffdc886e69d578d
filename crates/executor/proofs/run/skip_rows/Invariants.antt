use Rattle.std.proofs.Common.{◌≡◌, ◌-◌}
use Rattle.executor.specs.Cuts.{skipped}
use Rattle.executor.specs.Lists.{projected}
use Rattle.executor.specs.Rest.{left_at}
use Rattle.executor.proofs.run.skip_rows.Given as goal

abbrev pub invariant-loop-skipped : goal.invariant-loop-skipped
invariant-loop-skipped l = skipped (l.skip - l._skipped) (projected l.targets l.params (left_at l.stores l.snap l.params l.state)) ≡ skipped l.skip (projected l.targets l.params (left_at l.stores l.snap l.params l.fn.state))
