use Rattle.std.proofs.Common.{◌≡◌, ◌-◌, length, take, drop, ap, sym, ◌∙◌, arith}
use Rattle.std.proofs.lemmas.Grind.{common_steps}
use Rattle.sql_expr.specs.Expressions.{expression}
use Rattle.sql_expr.specs.Ended.{is_ended}
use Rattle.sql_expr.proofs.Leaving.{read-place}
use Rattle.sql_expr.proofs.Longest.{told}
use Rattle.sql_expr.proofs.slice.read_ended.Goals as goal

pub overflow_sub-length : goal.overflow_sub-length
overflow_sub-length c =
    let read = ap expression (sym c.new-cursor.ensures) ∙ c.in-Ok.ensures in
    let place = read-place c.args.tokens.now 0 c.in-Ok.expr c.expression.new.cursor read in
    omega (arith, c.left.ensures, place.0)

pub returns-in-Ok : goal.returns-in-Ok
returns-in-Ok c =
    let ts = c.args.tokens.now in
    let read = ap expression (sym c.new-cursor.ensures) ∙ c.in-Ok.ensures in
    let rest : take (length ts - (length ts - c.left.result)) (drop (length ts - c.left.result) ts) ≡ drop (length ts - c.left.result) ts = grind (arith, common_steps) in
    told ts c.in-Ok.expr c.expression.new.cursor (length ts - c.left.result) c.is_ended.result c.then_some.result read (ap (λ n. length ts - n) c.left.ensures) (c.is_ended.ensures ∙ ap is_ended rest) c.then_some.ensures
