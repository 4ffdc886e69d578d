use Rattle.std.proofs.Common.{take}
use Rattle.plan_invalid.specs.Index.{ListsMore}
use Rattle.plan_invalid.proofs.index.list.Given as goal

-- the key is listed under the ids so far
abbrev pub invariant-loop-id : goal.invariant-loop-id
invariant-loop-id l = ListsMore l.fn.watchers l.watchers l.key (take l.id-index l.ids)
