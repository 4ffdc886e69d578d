use Rattle.std.proofs.Common.{◌≡◌, ◌++◌, ◌-◌}
use Rattle.analyzer.specs.Relations.{placed_from}
use Rattle.analyzer.proofs.relations.placed_columns.Given as goal

abbrev pub invariant-loop-id : goal.invariant-loop-id
invariant-loop-id l = l.found ++ placed_from (l.next_column - l.id) l.id l.rest ≡ placed_from l.next_column 0 l.columns
