use Rattle.std.proofs.Common.{false, rules}
use Rattle.row_index.specs.Order.{entry_of}
use Rattle.row_index.proofs.Walks.{members_without}
use Rattle.row_index.proofs.index.Index.remove.Goals as goal

pub returns-clause-members : goal.returns-clause-members
returns-clause-members c = members_without (c.orders.ensures.sorts false false) (entry_of c.args.key.now c.args.slot) c.args.self.now c.remove.new.self (search rules)
