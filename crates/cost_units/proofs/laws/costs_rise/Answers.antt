use Rattle.std.proofs.Common.{◌+◌, ◌*◌}
use Rattle.cost_units.specs.Costs as spec
use Rattle.cost_units.proofs.Rising as rising
use Rattle.cost_units.proofs.laws.costs_rise.Goals as goal

pub returns-clause-charged : goal.returns-clause-charged
returns-clause-charged c = rising.charged-rises

pub returns-clause-subquery_scan : goal.returns-clause-subquery_scan
returns-clause-subquery_scan c = λ rows conds input more le. rising.added-rises ((1 + conds) * rows) input more le

pub returns-clause-nested_loop : goal.returns-clause-nested_loop
returns-clause-nested_loop c = rising.loop-rises

pub returns-clause-hash_join : goal.returns-clause-hash_join
returns-clause-hash_join c = rising.hash-rises

pub returns-clause-check : goal.returns-clause-check
returns-clause-check c = λ rows conds input more le. rising.added-rises (conds * rows) input more le

pub returns-clause-aggregate : goal.returns-clause-aggregate
returns-clause-aggregate c = λ rows calls input more le. rising.added-rises (rows * (1 + calls)) input more le

pub returns-clause-unique : goal.returns-clause-unique
returns-clause-unique c = λ rows input more le. rising.added-rises rows input more le

pub returns-clause-sort : goal.returns-clause-sort
returns-clause-sort c = λ rows input more le. rising.added-rises (2 * (rows * spec.binary_digits rows)) input more le
