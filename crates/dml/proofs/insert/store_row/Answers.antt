use Rattle.std.proofs.Common.{sym, subst, ◌++◌, ◌∷◌, []}
use Rattle.row_versions.specs.State.{State}
use Rattle.dml.specs.Changes.{Shows, now}
use Rattle.dml.proofs.Steps.{row_inserted}
use Rattle.dml.proofs.insert.store_row.Goals as goal

pub returns : goal.returns
returns c =
    let old = c.args.stores.now.heaps in
    let shows = row_inserted c.args.table c.in_ok-slot.slot.0 c.args.row old c.insert.new.self c.in_ok-slot.ensures.cases.1 in
    subst (λ (heaps : State). Shows c.args.table (now old c.args.table ++ (c.in_ok-slot.slot.0, c.args.row) ∷ []) old heaps) (sym c.add_entries.ensures) shows
