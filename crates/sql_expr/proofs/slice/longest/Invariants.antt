use Rattle.std.proofs.Common.{◌≡◌, ◌-◌, length, None}
use Rattle.sql_expr.specs.Expressions as spec
use Rattle.sql_expr.specs.Ended.{where_ended}
use Rattle.sql_expr.proofs.Longest.{AllBelow}
use Rattle.sql_expr.proofs.slice.longest.Given as goal

abbrev pub invariant-loop-turn : goal.invariant-loop-turn
invariant-loop-turn l = record {
  first : where_ended (spec.expression l.tokens) ≡ None;
  below : AllBelow l.tokens (length l.tokens - l.turn);
}
