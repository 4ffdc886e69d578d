use Rattle.std.proofs.Common.{◌≡◌, drop}
use Rattle.cat_commands.specs.Views as spec
use Rattle.cat_commands.proofs.views.is_among.Given as goal

abbrev pub invariant-loop-other : goal.invariant-loop-other
invariant-loop-other l = spec.is_among l.id (drop l.other-index l.ids) ≡ spec.is_among l.id l.ids
