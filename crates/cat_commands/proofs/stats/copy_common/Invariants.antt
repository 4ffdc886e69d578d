use Rattle.std.proofs.Common.{◌≡◌, take}
use Rattle.cat_commands.proofs.stats.copy_common.Given as goal

abbrev pub invariant-loop-common : goal.invariant-loop-common
invariant-loop-common l = l.copies ≡ take l.common-index l.values
