use Rattle.std.proofs.Common.{◌≡◌, drop}
use Rattle.analyzer.specs.Relations.{width_from}
use Rattle.analyzer.proofs.relations.width_of.Given as goal

abbrev pub invariant-loop-item : goal.invariant-loop-item
invariant-loop-item l = width_from l.width (drop l.item-index l.items) ≡ width_from 0 l.items
