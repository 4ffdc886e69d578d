use Rattle.q_value.proofs.Orders.{keys_total, sorts_total, plain_is_key}
use Rattle.q_value.proofs.laws.orders.Goals as goal

pub returns-clause-keys : goal.returns-clause-keys
returns-clause-keys c = keys_total

pub returns-clause-sorts : goal.returns-clause-sorts
returns-clause-sorts c = sorts_total

pub returns-clause-plain : goal.returns-clause-plain
returns-clause-plain c = plain_is_key
