use Rattle.std.proofs.Common.{take}
use Rattle.cat_deps.specs.Reached.{Adds}
use Rattle.cat_deps.proofs.reached.add_all.Given as goal

-- the ids so far were added
abbrev pub invariant-loop-id : goal.invariant-loop-id
invariant-loop-id l = Adds (take l.id-index l.ids) l.fn.reached l.reached
