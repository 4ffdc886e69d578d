use Rattle.std.proofs.Common.{false}
use Rattle.row_index.proofs.Orders.{keys_total, entries_total}
use Rattle.row_index.proofs.laws.orders.Goals as goal

pub returns-clause-keys : goal.returns-clause-keys
returns-clause-keys c = keys_total (c.orders.ensures.sorts false false)

pub returns-clause-entries : goal.returns-clause-entries
returns-clause-entries c = entries_total (c.orders.ensures.sorts false false)
