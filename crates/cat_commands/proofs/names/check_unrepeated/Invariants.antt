use Rattle.std.proofs.Common.{◌≡◌, drop, take}
use Rattle.cat_commands.specs.Names as spec
use Rattle.cat_commands.proofs.names.check_unrepeated.Given as goal

abbrev pub invariant-loop-place : goal.invariant-loop-place
invariant-loop-place l = spec.unrepeated_from (take l.place l.names) (drop l.place l.names) ≡ spec.unrepeated l.names
