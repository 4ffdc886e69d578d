use Rattle.std.proofs.Common.{ap, ◌∙◌, arith}
use Rattle.row_versions.specs.State.{State}
use Rattle.container_bench.proofs.rows.insert.Goals as goal

pub loop-number-preserved : goal.loop-number-preserved
loop-number-preserved c =
    let held = c.loop-number.invariant in
    let inserted = c.in_ok-insert.ensures.cases.1 in
    record {
      added = inserted.tables.added (record { 0 = 1 }) held.added;
      few = omega (arith, inserted.tables.slots (record { 0 = 1 }), held.few);
      newest = ap (λ (s : State). s.newest) inserted.changes.state ∙ held.newest;
      pins = ap (λ (s : State). s.pins) inserted.changes.state ∙ held.pins;
    }
