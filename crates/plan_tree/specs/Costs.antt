-- What a plan costs.
use Rattle.std.specs.Prelude.{ℕ}
use Rattle.plan_tree.specs.declared.node.Estimate.{Estimate}
use Rattle.plan_tree.specs.declared.node.Node.{Node, out-Node}
use Rattle.plan_tree.specs.declared.node.Node.TheOpen.{Node-F}
use Rattle.plan_tree.specs.declared.node.Plan.{Plan}

abbrev pub layer_estimate : {A B : Type 0} → Node-F A B → Estimate
layer_estimate (Node-F.Result estimate conds) = estimate
layer_estimate (Node-F.SeqScan estimate scan) = estimate
layer_estimate (Node-F.IndexScan estimate scan index) = estimate
layer_estimate (Node-F.SubqueryScan estimate scan block) = estimate
layer_estimate (Node-F.NestedLoop estimate conds outer inner) = estimate
layer_estimate (Node-F.HashJoin estimate conds keys outer inner) = estimate
layer_estimate (Node-F.Check estimate conds input) = estimate
layer_estimate (Node-F.Aggregate estimate group input) = estimate
layer_estimate (Node-F.Unique estimate targets input) = estimate
layer_estimate (Node-F.Sort estimate keys input) = estimate
layer_estimate (Node-F.Limit estimate cut input) = estimate
layer_estimate (Node-F.Insert estimate) = estimate
layer_estimate (Node-F.Update estimate input) = estimate
layer_estimate (Node-F.Delete estimate input) = estimate

-- what stands at the head of a node
abbrev pub estimate_of : Node → Estimate
estimate_of node = layer_estimate (out-Node node)

-- the cost of the topmost node
abbrev pub cost_of : Plan → ℕ
cost_of plan = (estimate_of plan.block.node).cost
