use Rattle.std.proofs.Common.{◌≡◌, [], drop}
use Rattle.expr_analysis.specs.Sights.{sight}
use Rattle.analyzer.specs.Outputs.{outputs_from}
use Rattle.analyzer.proofs.outputs.select_list.Given as goal

abbrev pub invariant-loop-item : goal.invariant-loop-item
invariant-loop-item l = outputs_from (sight l.scope) l.place l.top l.found (drop l.item-index l.written) l.state ≡ outputs_from (sight l.scope) l.place l.top [] l.written l.fn.state
