use Rattle.std.proofs.Common.{◌≡◌, take}
use Rattle.analyzer.specs.FromClause.{ids_of}
use Rattle.analyzer.proofs.from_clause.ids_of.Given as goal

abbrev pub invariant-loop-item : goal.invariant-loop-item
invariant-loop-item l = l.ids ≡ ids_of (take l.item-index l.items)
