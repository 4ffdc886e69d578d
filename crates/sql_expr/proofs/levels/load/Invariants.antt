use Rattle.std.proofs.Common.{◌≡◌, ◌≤◌, max, min, drop, sum}
use Rattle.sql_expr.specs.Load.{greatest, load_of}
use Rattle.sql_expr.proofs.levels.load.Given as goal

abbrev pub invariant-loop-token : goal.invariant-loop-token
invariant-loop-token l = record {
  few : l.most ≤ 200;
  light : sum l.levels ≤ 200;
  most : min 201 (max l.most (greatest l.levels (drop l.token-index l.tokens))) ≡ load_of l.tokens;
}
