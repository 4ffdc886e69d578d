use Rattle.std.proofs.Common.{◌≡◌, map, take}
use Rattle.view_rewrite.specs.Changed.{changed_key}
use Rattle.view_rewrite.proofs.changed.changed_keys.Given as goal

abbrev pub invariant-loop-key : goal.invariant-loop-key
invariant-loop-key l = l.copies ≡ map (changed_key l.change.meanings.now l.change.width) (take l.key-index l.keys)
