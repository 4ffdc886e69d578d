use Rattle.std.proofs.Common.{◌≡◌, ◌++◌, drop}
use Rattle.savepoints.specs.Shown.{shown_more}
use Rattle.savepoints.proofs.shown.append_more.Given as goal

-- what was appended, with what is to come
abbrev pub invariant-loop-name : goal.invariant-loop-name
invariant-loop-name l = l.out.items ++ shown_more (drop l.name-index l.names) ≡ l.fn.out.items ++ shown_more l.names
