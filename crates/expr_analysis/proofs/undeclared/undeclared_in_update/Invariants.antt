use Rattle.std.proofs.Common.{◌≡◌, map, drop}
use Rattle.expr_analysis.specs.Undeclared.{in_assignment, any_of}
use Rattle.expr_analysis.proofs.undeclared.undeclared_in_update.Given as goal

abbrev pub invariant-loop-assignment : goal.invariant-loop-assignment
invariant-loop-assignment l =
    any_of (map (in_assignment l.declared) (drop l.assignment-index l.assignment-items))
    ≡ any_of (map (in_assignment l.declared) l.written.assignments)
