use Rattle.std.proofs.Common.{◌≡◌, drop}
use Rattle.analyzer.specs.FromClause.{is_named}
use Rattle.analyzer.proofs.from_clause.is_named.Given as goal

abbrev pub invariant-loop-item : goal.invariant-loop-item
invariant-loop-item l = is_named l.name (drop l.item-index l.items) ≡ is_named l.name l.items
