use Rattle.std.proofs.Common.{take}
use Rattle.plan_invalid.specs.Index.{ListsLess}
use Rattle.plan_invalid.proofs.index.unlist.Given as goal

-- the ids so far are done
abbrev pub invariant-loop-id : goal.invariant-loop-id
invariant-loop-id l = ListsLess l.fn.watchers l.watchers l.key (take l.id-index l.ids) l.kept
