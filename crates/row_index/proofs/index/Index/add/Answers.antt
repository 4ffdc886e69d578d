use Rattle.std.proofs.Common.{false, rules}
use Rattle.row_index.specs.Order.{entry_of}
use Rattle.row_index.proofs.Walks.{members_with}
use Rattle.row_index.proofs.index.Index.add.Goals as goal

pub returns-clause-members : goal.returns-clause-members
returns-clause-members c = members_with (c.orders.ensures.sorts false false) c.add.result (entry_of c.args.key c.args.slot) c.args.self.now c.add.new.self (search rules)
