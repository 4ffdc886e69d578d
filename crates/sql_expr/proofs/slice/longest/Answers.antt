use Rattle.std.proofs.Common.{◌≡◌, ◌-◌, ◌+◌, length, take, drop, ap, sym, subst, ◌∙◌, arith}
use Rattle.std.proofs.lemmas.Grind.{common_steps}
use Rattle.sql_expr.specs.Expressions as spec
use Rattle.sql_expr.specs.Ended.{is_ended}
use Rattle.sql_expr.specs.Ended.{where_ended, IsToldOf}
use Rattle.sql_expr.proofs.Longest.{told-longest, told-none, whole-longest, whole-none, below-token, below-again, none-below}
use Rattle.sql_expr.proofs.slice.longest.Goals.{then-not-is_ended+in_ok-read-2+in_default-2, else-not-is_ended}
use Rattle.sql_expr.proofs.slice.longest.Goals as goal

pub returns-in-Some : goal.returns-in-Some
returns-in-Some c = let ts = c.args.tokens.now in whole-longest ts c.in-Some.read (subst (IsToldOf ts (where_ended (spec.expression ts))) c.in-Some.is c.in_ok-read.ensures)

pub loop-turn-init : goal.loop-turn-init
loop-turn-init c =
    let ts = c.args.tokens.now in
    let told = subst (IsToldOf ts (where_ended (spec.expression ts))) c.in_default.is c.in_ok-read.ensures in
    record { first = told; below = below-again ts (length ts) (length ts - 0) (whole-none ts told) (omega arith) }

pub returns-in-Some-2 : goal.returns-in-Some-2
returns-in-Some-2 c =
    let ts = c.args.tokens.now in
    let cut = length ts - 1 - c.loop-turn.turn in
    let below = below-again ts (length ts - c.loop-turn.turn) (cut + 1) c.loop-turn.invariant.below (omega (arith, c.loop-turn-test.true, c.loop-turn.auto.turn-end)) in
    told-longest ts cut c.in-Some-2.read below (omega arith) (subst (IsToldOf (take cut ts) (where_ended (spec.expression (take cut ts)))) c.in-Some-2.is c.in_ok-read-2.ensures)

pub loop-turn-preserved : goal.loop-turn-preserved
loop-turn-preserved c =
    let ts = c.args.tokens.now in
    let cut = length ts - 1 - c.loop-turn.turn in
    let below = below-again ts (length ts - c.loop-turn.turn) (cut + 1) c.loop-turn.invariant.below (omega (arith, c.loop-turn-test.true, c.loop-turn.auto.turn-end)) in
    let rest : take (length ts - cut) (drop cut ts) ≡ drop cut ts = grind (arith, common_steps) in
    record {
      first = c.loop-turn.invariant.first;
      below = below-again ts cut (length ts - (c.loop-turn.turn + 1)) (elim c.if-not-is_ended.branch [
        | then-not-is_ended+in_ok-read-2+in_default-2 w ↦ told-none ts cut below (omega arith) (subst (IsToldOf (take cut ts) (where_ended (spec.expression (take cut ts)))) w.in_default-2.is w.in_ok-read-2.ensures)
        | else-not-is_ended w ↦ below-token ts cut below (omega arith) (sym (c.is_ended.ensures ∙ ap is_ended rest) ∙ w.if-not-is_ended.false) c.loop-turn.invariant.first
      ]) (omega arith);
    }

pub returns : goal.returns
returns c expr behind spelt =
    let ts = c.args.tokens.now in
    none-below ts (below-again ts (length ts - c.loop-turn.turn) 0 c.loop-turn.invariant.below (omega (arith, c.loop-turn-test.false, c.loop-turn.auto.turn-end))) expr behind spelt
