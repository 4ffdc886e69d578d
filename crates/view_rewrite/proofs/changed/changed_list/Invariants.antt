use Rattle.std.proofs.Common.{◌≡◌, map, take}
use Rattle.view_rewrite.specs.Changed.{changed}
use Rattle.view_rewrite.proofs.changed.changed_list.Given as goal

abbrev pub invariant-loop-target : goal.invariant-loop-target
invariant-loop-target l = l.copies ≡ map (changed l.change.meanings.now l.change.width) (take l.target-index l.targets)
