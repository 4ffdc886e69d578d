use Rattle.std.proofs.Common.{◌≡◌, ◌++◌, map, take}
use Rattle.view_rewrite.specs.Changed.{changed}
use Rattle.view_rewrite.proofs.placing.Placing.push_conds.Given as goal

abbrev pub invariant-loop-cond : goal.invariant-loop-cond
invariant-loop-cond l = (l.self.conds ≡ l.fn.self.conds ++ map (changed l.meanings 0) (take l.cond-index l.conds)) × (l.self.items ≡ l.fn.self.items) × (l.self.width ≡ l.fn.self.width)
